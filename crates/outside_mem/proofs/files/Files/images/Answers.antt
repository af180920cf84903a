use Rattle.std.proofs.Common.{ℕ, map, ◌≡◌, ◌++◌, ◌∷◌, ◌<◌, ◌+◌, [], List, take, length, get_or, refl, sym, ap, subst, ◌∙◌, arith}
use Rattle.std.proofs.lemmas.List.{take_more, take_all}
use Rattle.outside_mem.specs.declared.files.Numbered.{Numbered}
use Rattle.std.proofs.lemmas.Map.Entries.{entries_from_clone}
use Rattle.outside_mem.specs.Places.{Finds}
use Rattle.outside_mem.proofs.PlaceLemmas.{number_of, finds_same, left_numbers}
use Rattle.outside_mem.proofs.FileLemmas.{AllLeft, all_left, left_push}
use Rattle.outside_mem.proofs.files.Files.images.Goals as goal

pub loop-entry-init : goal.loop-entry-init
loop-entry-init c = subst (λ (l : List Numbered). AllLeft c.args.leaving [] l) (sym c.in_ok-entries.ensures.items) tt

pub loop-entry-preserved : goal.loop-entry-preserved
loop-entry-preserved c =
    let all = c.args.self.now in
    let i = c.loop-entry.entry-index in
    let same = c.deref-entry-items.ensures.value ∙ c.self.view_is in
    let x = c.entry-item.result in
    let here : x ≡ get_or all i x = c.entry-item.is ∙ ap (λ (l : List Numbered). get_or l i x) same in
    let less : i < length all = omega (arith, c.loop-entry-test.true, ap length same) in
    let front : take (i + 1) all ≡ take i all ++ x ∷ [] = take_more all i x less ∙ ap (λ (e : Numbered). take i all ++ e ∷ []) (sym here) in
    let step = left_push c.args.leaving (take i all) c.loop-entry.entries.items x (record { number = x.number; file = c.from_vec.result }) c.in_ok-image.image.items c.loop-entry.invariant refl c.in_ok-image.ensures.left c.from_vec.ensures in
    subst (λ (l : List Numbered). AllLeft c.args.leaving (take (i + 1) all) l) (sym c.in_ok-push.ensures.items)
    (subst (λ (l : List Numbered). AllLeft c.args.leaving l (c.loop-entry.entries.items ++ record { number = x.number; file = c.from_vec.result } ∷ [])) (sym front) step)

pub returns : goal.returns
returns c =
    let all = c.args.self.now in
    let i = c.loop-entry.entry-index in
    let same = c.deref-entry-items.ensures.value ∙ c.self.view_is in
    let whole : take i all ≡ all = take_all i all (omega (arith, c.loop-entry-test.false, ap length same)) in
    all_left c.args.leaving all c.loop-entry.entries.items (subst (λ (l : List Numbered). AllLeft c.args.leaving l c.loop-entry.entries.items) whole c.loop-entry.invariant)

pub invariant_of-result : goal.invariant_of-result
invariant_of-result c =
    let all = c.args.self.now in
    let i = c.loop-entry.entry-index in
    let same = c.deref-entry-items.ensures.value ∙ c.self.view_is in
    let whole : take i all ≡ all = take_all i all (omega (arith, c.loop-entry-test.false, ap length same)) in
    let left = subst (λ (l : List Numbered). AllLeft c.args.leaving l c.loop-entry.entries.items) whole c.loop-entry.invariant in
    let places : c.in_ok-places.places.entries ≡ c.self.inside.places.entries =
    entries_from_clone _ _ (λ x y h. h) (λ v w h. h) c.self.inside.places.entries c.in_ok-places.places.entries c.in_ok-places.ensures.cases in
    let numbers : map number_of c.loop-entry.entries.items ≡ map number_of c.self.inside.entries.items = left_numbers c.args.leaving all c.loop-entry.entries.items left ∙ ap (map number_of) (sym c.self.view_is) in
    subst (λ (l : List ℕ). Finds c.in_ok-places.places l) (sym numbers) (finds_same c.self.inside.places c.in_ok-places.places (map number_of c.self.inside.entries.items) places c.self.invariant)
