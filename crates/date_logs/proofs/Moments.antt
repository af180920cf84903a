-- How a run of calls goes on.
use Rattle.std.proofs.Common.{◌≡◌, ◌≢◌, ℕ, List, [], ◌∷◌, ◌++◌, sym, ap, ◌∙◌, append_assoc}
use Rattle.std.proofs.lemmas.List.{append-nil}
use Rattle.std.specs.List.{AllByRecursion}
use Rattle.outside_api.specs.Disk.{FileState, IsImage, DiskView, Passes}
use Rattle.gated_journal.proofs.Moments.{All-append, All_weaker}
use Rattle.date_logs.specs.Moments.{Throughout}

abbrev pub Files : Type 0
Files = ℕ → FileState

pub throughout-none : (old : DiskView) (P : Files → Type 0) → Throughout old old P
throughout-none old P = record { moments = []; goes_on = sym (append-nil (old.past ++ old.now ∷ [])); each = tt }

pub throughout-join : (old mid new : DiskView) (P : Files → Type 0) → Throughout old mid P → Throughout mid new P → Throughout old new P
throughout-join old mid new P a b = record {
  moments = a.moments ++ b.moments;
  goes_on = b.goes_on ∙ ap (λ (l : List Files). l ++ b.moments) a.goes_on ∙ append_assoc (old.past ++ old.now ∷ []) a.moments b.moments;
  each = All-append P a.moments b.moments a.each b.each;
}

pub throughout-weaker : (old new : DiskView) (P Q : Files → Type 0) → ((files : Files) → P files → Q files) → Throughout old new P → Throughout old new Q
throughout-weaker old new P Q f a = record { moments = a.moments; goes_on = a.goes_on; each = All_weaker P Q a.moments f a.each }

both : {X : Type 0} (P Q R : X → Type 0) (xs : List X) → ((x : X) → P x → Q x → R x) → AllByRecursion P xs → AllByRecursion Q xs → AllByRecursion R xs
both P Q R [] f a b = tt
both P Q R (x ∷ xs) f a b = (f x a.0 b.0, both P Q R xs f a.1 b.1)

-- the moments of a call on one file
pub throughout-passes : (old new : DiskView) (file : ℕ) (P : List ℕ → Type 0) (Q : Files → Type 0)
    → ((files : Files) → ((image : List ℕ) → IsImage (files file) image → P image) → ((k : ℕ) → k ≢ file → files k ≡ old.now k) → Q files) → Passes old new file P → Throughout old new Q
throughout-passes old new file P Q f a = record {
  moments = a.moments;
  goes_on = a.goes_on;
  each = both (λ (files : Files). (image : List ℕ) → IsImage (files file) image → P image) (λ (files : Files). (k : ℕ) → k ≢ file → files k ≡ old.now k) Q a.moments f a.images a.others;
}
