-- Card 12: every generated image is accepted, and it is the same in every output.
use Rattle.std.specs.Prelude.{Ok}
use Prim.Native.Nat.{ℕ, ◌≤◌}
use native.Mathlib.Omega.{arith}
use mathlib.Core.Path.{◌≡◌, refl, sym, ap, ◌∙◌}
use mathlib.Core.List.{List}
use lib.ListN.{length, take, drop}
use lib.Seq.{take-append_seam}
use Rattle.image.specs.Limits.{work_length, report_length}
use Rattle.base_bytes.specs.Bytes.{over}
use Rattle.base_bytes.proofs.Over.{over_front, drop_over}
use Rattle.image_written.specs.Generated.{load_depth_limit, load_length, generated}
use Rattle.image_written.proofs.Load.{generated_holds, generated_short}
use Rattle.write_load.specs.Loads.{Call, loaded}
use Rattle.write_load.specs.Card12.{SameBytes, Card12}
use Rattle.write_load.proofs.Whole.{loaded_written}

same_bytes : (depth seed : ℕ) (out : List ℕ) → 1 ≤ depth → depth ≤ load_depth_limit → load_length ≤ length out → SameBytes depth seed out
same_bytes depth seed out h l m =
    let g : List ℕ = generated depth seed in
    let s = generated_short depth seed l in
    let e : ◌≡◌ {A = Call} (record { answer = Ok (length g); output = over 0 g out }) (loaded seed depth out) = loaded_written seed depth out h l m refl refl in
    record {
      answer = ap (λ c. c.answer) (sym e);
      image = ap (λ c. take (length g) c.output) (sym e) ∙ ap (λ o. take (length g) o) (over_front g out) ∙ take-append_seam g (drop (length g) out);
      past = ap (λ c. drop (length g) c.output) (sym e) ∙ drop_over g out 0 (length g) (omega arith) (omega arith);
    }

pub card12 : (depth seed : ℕ) → 1 ≤ depth → depth ≤ load_depth_limit → Card12 depth seed
card12 depth seed h l =
    let H = generated_holds depth seed work_length report_length l (omega arith) (omega arith) in
    record {
      accepted = λ work report w r. (generated_holds depth seed work report l w r).accepted;
      domains = H.domains;
      tree = H.tree;
      short = generated_short depth seed l;
      equal = λ out m. same_bytes depth seed out h l m;
    }
