-- Equality of texts.
use Rattle.std.proofs.Common.{◌≡◌, ℕ, List, arith}
use Rattle.std.specs.Prelude.{nat_eq}
use lib.Pointwise.{pointwise}
use Rattle.std.specs.Cmp.Lexicographic.{slice_cmp, lists_ties}
use Rattle.std.specs.Ordering.{is_eq, nat_cmp}

nat_ties : (x y : ℕ) → nat_eq x y ≡ is_eq (nat_cmp x y)
nat_ties x y = grind arith

-- texts are equal byte by byte where neither comes before the other
pub text_ties : (xs ys : List ℕ) → pointwise nat_eq xs ys ≡ is_eq (slice_cmp nat_cmp xs ys)
text_ties xs ys = lists_ties nat_cmp nat_ties xs ys
