use Rattle.vm_labels.proofs.Labelling.{few_digits}
use native.Mathlib.Omega.{arith}
use Rattle.vm_labels.proofs.labels.part_of.Goals as goal

pub overflow_add-done : goal.overflow_add-done
overflow_add-done c = let n = few_digits 8 c.digits_at-d.result in omega (arith, c.digit_count.ensures, n)
