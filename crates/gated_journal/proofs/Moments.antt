-- How a run of device calls goes on.
use Rattle.std.proofs.Common.{◌≡◌, ◌≢◌, ℕ, zero, suc, List, [], ◌∷◌, ◌++◌, replicate, refl, sym, ◌∙◌, ap, append_assoc}
use Rattle.std.proofs.lemmas.List.{append-nil}
use Rattle.std.specs.List.{AllByRecursion}
use Rattle.outside_api.specs.Disk.{FileState, DiskView, IsImage, Changes, Passes}

abbrev Files : Type 0
Files = ℕ → FileState

pub All-append : {X : Type 0} (P : X → Type 0) (xs ys : List X) → AllByRecursion P xs → AllByRecursion P ys → AllByRecursion P (xs ++ ys)
All-append P [] ys a b = b
All-append P (x ∷ xs) ys a b = (a.0, All-append P xs ys a.1 b)

pub All_weaker : {X : Type 0} (P Q : X → Type 0) (xs : List X) → ((x : X) → P x → Q x) → AllByRecursion P xs → AllByRecursion Q xs
All_weaker P Q [] f a = tt
All_weaker P Q (x ∷ xs) f a = (f x a.0, All_weaker P Q xs f a.1)

-- before the first call
pub passes_none : (old : DiskView) (file : ℕ) (P : List ℕ → Type 0) → Passes old old file P
passes_none old file P = record { moments = []; goes_on = sym (append-nil (old.past ++ old.now ∷ [])); images = tt; others = tt; others_now = λ k apart. refl }

-- two runs, one after the other
pub passes_on : (old mid new : DiskView) (file : ℕ) (P : List ℕ → Type 0) → Passes old mid file P → Passes mid new file P → Passes old new file P
passes_on old mid new file P a b = record {
  moments = a.moments ++ b.moments;
  goes_on = b.goes_on ∙ ap (λ (l : List Files). l ++ b.moments) a.goes_on ∙ append_assoc (old.past ++ old.now ∷ []) a.moments b.moments;
  images = All-append (λ (files : Files). (image : List ℕ) → IsImage (files file) image → P image) a.moments b.moments a.images b.images;
  others = All-append (λ (files : Files). (k : ℕ) → k ≢ file → files k ≡ old.now k) a.moments b.moments a.others
      (All_weaker (λ (files : Files). (k : ℕ) → k ≢ file → files k ≡ mid.now k) (λ (files : Files). (k : ℕ) → k ≢ file → files k ≡ old.now k) b.moments
      (λ files same k apart. same k apart ∙ a.others_now k apart) b.others);
  others_now = λ k apart. b.others_now k apart ∙ a.others_now k apart;
}

-- one call
pub passes_one : (old new : DiskView) (file : ℕ) (Step : FileState → FileState → Type 0) (P : List ℕ → Type 0) → Changes old new file Step → ((image : List ℕ) → IsImage (new.now file) image → P image) → Passes old new file P
passes_one old new file Step P c images = record {
  moments = new.now ∷ [];
  goes_on = ap (λ (l : List Files). l ++ new.now ∷ []) c.past;
  images = (images, tt);
  others = (c.others, tt);
  others_now = c.others;
}

replicate_last : {X : Type 0} (n : ℕ) (x : X) → replicate n x ++ x ∷ [] ≡ x ∷ replicate n x
replicate_last zero x = refl
replicate_last (suc n) x = ap (λ (l : List _). x ∷ l) (replicate_last n x)

All_replicate : {X : Type 0} (P : X → Type 0) (n : ℕ) (x : X) → P x → AllByRecursion P (replicate n x)
All_replicate P zero x p = tt
All_replicate P (suc n) x p = (p, All_replicate P n x p)

-- moments at which nothing changed
pub passes_still : (old new : DiskView) (file : ℕ) (P : List ℕ → Type 0) → new.now ≡ old.now → (n : ℕ) → new.past ≡ old.past ++ replicate n old.now
    → ((image : List ℕ) → IsImage (old.now file) image → P image) → Passes old new file P
passes_still old new file P now n past here = record {
  moments = replicate n old.now;
  goes_on = (λ i. past i ++ now i ∷ []) ∙ append_assoc old.past (replicate n old.now) (old.now ∷ [])
      ∙ ap (λ (l : List Files). old.past ++ l) (replicate_last n old.now) ∙ sym (append_assoc old.past (old.now ∷ []) (replicate n old.now));
  images = All_replicate (λ (files : Files). (image : List ℕ) → IsImage (files file) image → P image) n old.now here;
  others = All_replicate (λ (files : Files). (k : ℕ) → k ≢ file → files k ≡ old.now k) n old.now (λ k apart. refl);
  others_now = λ k apart. ap (λ (f : Files). f k) now;
}

pub passes_weaker : (old new : DiskView) (file : ℕ) (P Q : List ℕ → Type 0) → ((image : List ℕ) → P image → Q image) → Passes old new file P → Passes old new file Q
passes_weaker old new file P Q f a = record {
  moments = a.moments;
  goes_on = a.goes_on;
  images = All_weaker (λ (files : Files). (image : List ℕ) → IsImage (files file) image → P image) (λ (files : Files). (image : List ℕ) → IsImage (files file) image → Q image) a.moments
      (λ files here image is. f image (here image is)) a.images;
  others = a.others;
  others_now = a.others_now;
}
