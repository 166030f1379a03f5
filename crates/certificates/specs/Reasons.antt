-- How a reason why a document is not accepted is written.
use Rattle.std.specs.Prelude.{ℕ, List, ◌++◌, codes, decimal}
use Rattle.certificates.specs.declared.refusal.CheckRefusal.{CheckRefusal}
use Rattle.certificates.specs.declared.refusal.CheckRefusal.TheVariants as refusal

abbrev pub reason_text : CheckRefusal → List ℕ
reason_text (refusal.PairOutside number) = codes "pair outside at line " ++ decimal number
reason_text (refusal.NotBelow number) = codes "not below at line " ++ decimal number
reason_text (refusal.NotConforming number) = codes "not conforming at line " ++ decimal number
reason_text (refusal.BadRule number) = codes "bad rule at line " ++ decimal number
reason_text (refusal.BadStep number) = codes "bad step at line " ++ decimal number
reason_text refusal.WrongClaim = codes "wrong claim"
reason_text refusal.NotEmpty = codes "not empty"
reason_text refusal.OutOfMemory = codes "out of memory"
