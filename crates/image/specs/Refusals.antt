-- Document 01's number of each refusal ("Turned back at the gate").
use Rattle.std.specs.Prelude.{ℕ}
use Rattle.image.specs.declared.Refusal.{Refusal}

abbrev pub refusal_number : Refusal → ℕ
refusal_number Refusal.ImageTooLong = 1
refusal_number Refusal.BrokenRecord = 2
refusal_number Refusal.UnknownKind = 3
refusal_number Refusal.WrongLength = 4
refusal_number Refusal.SectionOrder = 5
refusal_number Refusal.TooManyRecords = 6
refusal_number Refusal.FieldRange = 7
refusal_number Refusal.RepeatedType = 8
refusal_number Refusal.EmptySection = 9
refusal_number Refusal.DomainOrder = 10
refusal_number Refusal.UseCount = 11
refusal_number Refusal.TooDeep = 12
refusal_number Refusal.UnboundVariable = 13
refusal_number Refusal.TypeRule = 14
refusal_number Refusal.DomainRule = 15
refusal_number Refusal.RootNotPlain = 16
refusal_number Refusal.ShortWorkArea = 17
refusal_number Refusal.ShortReport = 18
