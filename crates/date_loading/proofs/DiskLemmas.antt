-- What the sync and the reads of one file leave of all files.
use Rattle.std.proofs.Common.{◌≡◌, ◌≢◌, ◌⊎◌, inl, inr, ⊎_elim, eqb, true, false, ℕ, IsTrue, List, [], ◌∷◌, ◌++◌, sym, ap}
use Rattle.std.proofs.Common.{◌∙◌, subst}
use Rattle.std.specs.List.{AllByRecursion}
use Rattle.std.proofs.lemmas.Bool.Decides.{eqb_tells}
use Rattle.outside_api.specs.Disk.{FileState, IsImage, DiskView}
use Rattle.gated_journal.specs.Load.{KeepsImages}
use Rattle.date_logs.proofs.Moments.{Files, throughout-join, throughout-weaker, throughout-passes}
use Rattle.date_loading.specs.Loading.{ReadsAsBefore, KeepsFiles}

-- a number is this one, or another
pub by-file : {P : Type 0} (k file : ℕ) → (k ≡ file → P) → (k ≢ file → P) → P
by-file k file f g =
    ⊎_elim (λ (same : (eqb k file ≡ true) × (k ≡ file)). f same.1) (λ (apart : (eqb k file ≡ false) × (k ≢ file)). g apart.1) (eqb_tells k file)

pub reads-same : (old new : Files) (file : ℕ) → (new file).bytes ≡ (old file).bytes → ((k : ℕ) → k ≢ file → new k ≡ old k) → (k : ℕ)
    → (new k).bytes ≡ (old k).bytes
reads-same old new file same others k =
    by-file k file (λ is. subst (λ (n : ℕ). (new n).bytes ≡ (old n).bytes) (sym is) same) (λ apart. ap (λ (s : FileState). s.bytes) (others k apart))

abbrev Kept : Files → Files → Type 0
Kept old files = (k : ℕ) (image : List ℕ) → IsImage (files k) image → IsImage (old k) image ⊎ (image ≡ (old k).bytes)

pub keeps-files : (old new : DiskView) (file : ℕ) → KeepsImages old new file → KeepsFiles old new
keeps-files old new file keeps = λ told.
    throughout-passes old new file (λ image. IsImage (old.now file) image ⊎ (image ≡ (old.now file).bytes)) (Kept old.now)
    (λ files own others k image is. by-file k file
    (λ same. subst (λ (n : ℕ). IsImage (old.now n) image ⊎ (image ≡ (old.now n).bytes)) (sym same)
    (own image (subst (λ (n : ℕ). IsImage (files n) image) same is)))
    (λ apart. inl (subst (λ (s : FileState). IsImage s image) (others k apart) is)))
    (keeps told)

-- ---- the last of a list

abbrev LastIs : {X : Type 0} → (X → Type 0) → List X → Type 0
LastIs P [] = Unit {0}
LastIs P (x ∷ []) = P x
LastIs P (x ∷ y ∷ ys) = LastIs P (y ∷ ys)

last-all : {X : Type 0} (P : X → Type 0) (xs : List X) → AllByRecursion P xs → LastIs P xs
last-all P [] h = tt
last-all P (x ∷ []) h = h.0
last-all P (x ∷ y ∷ ys) h = last-all P (y ∷ ys) h.1

last-push : {X : Type 0} (P : X → Type 0) (xs : List X) (x : X) → P x → LastIs P (xs ++ x ∷ [])
last-push P [] x h = h
last-push P (y ∷ []) x h = h
last-push P (y ∷ z ∷ zs) x h = last-push P (z ∷ zs) x h

last-at : {X : Type 0} (P : X → Type 0) (xs : List X) (x : X) → LastIs P (xs ++ x ∷ []) → P x
last-at P [] x h = h
last-at P (y ∷ []) x h = h
last-at P (y ∷ z ∷ zs) x h = last-at P (z ∷ zs) x h

last-more : {X : Type 0} (P : X → Type 0) (xs ys : List X) → LastIs P xs → AllByRecursion P ys → LastIs P (xs ++ ys)
last-more P [] ys h all = last-all P ys all
last-more P (x ∷ []) [] h all = h
last-more P (x ∷ []) (y ∷ ys) h all = last-all P (y ∷ ys) all
last-more P (x ∷ z ∷ zs) ys h all = last-more P (z ∷ zs) ys h all

-- one call after another
pub keeps-join : (old mid new : DiskView) → mid.tells ≡ old.tells → ReadsAsBefore old mid → KeepsFiles old mid → KeepsFiles mid new → KeepsFiles old new
keeps-join old mid new tells reads one two = λ told.
    let first = one told in
    let whole =
    last-more (Kept old.now) (old.past ++ old.now ∷ []) first.moments (last-push (Kept old.now) old.past old.now (λ k image is. inl is)) first.each in
    let earlier : Kept old.now mid.now = last-at (Kept old.now) mid.past mid.now (subst (LastIs (Kept old.now)) (sym first.goes_on) whole) in
    throughout-join old mid new (Kept old.now) first
    (throughout-weaker mid new (Kept mid.now) (Kept old.now)
    (λ files kept k image is. ⊎_elim (λ (own : IsImage (mid.now k) image). earlier k image own)
    (λ (read : image ≡ (mid.now k).bytes). inr (read ∙ reads told k)) (kept k image is))
    (two (subst IsTrue (sym tells) told)))
