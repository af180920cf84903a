use Rattle.std.proofs.Common.{ap, ◌<◌, ◌∙◌, inl, inr, List, length, refl, subst}
use Rattle.outside_api.specs.Disk.{empty_file, unsettled}
use Rattle.outside_mem.specs.MemFile.{IsFirst}
use Rattle.outside_mem.specs.declared.files.Numbered.{Numbered}
use Rattle.outside_mem.proofs.PlaceLemmas.{finds_set}
use Rattle.outside_mem.proofs.FileLemmas.{changes_over, changes_absent}
use Rattle.outside_mem.proofs.files.Files.lose.Goals as goal

pub returns-in-Some : goal.returns-in-Some
returns-in-Some c =
    let es = c.self.inside.entries.items in
    let less = subst (λ (l : List Numbered). c.in-Some.i < length l) c.as_slice.ensures.value c.in-Some.ensures.within in
    let first = subst (λ (l : List Numbered). IsFirst l c.args.number c.in-Some.i) c.as_slice.ensures.value c.in-Some.ensures.found in
    inr (changes_over c.args.self.now es c.args.self.now c.args.number c.in-Some.i c.index_mut.result.now c.lose.new.self unsettled (λ k. refl) c.self.view_is less first c.index_mut.ensures.value c.lose.ensures)

pub returns-in_default : goal.returns-in_default
returns-in_default c =
    let here = changes_absent _ c.args.self.now c.args.number (λ f. empty_file) (c.as_slice.ensures.value ∙ c.self.view_is) c.in_default.ensures.none refl in
    inl (here.changed, λ k. refl)

pub invariant_of-self : goal.invariant_of-self
invariant_of-self c =
    finds_set c.self.inside.places c.self.inside.entries.items c.in-Some.i (record { number = c.index_mut.result.now.number; file = c.lose.new.self }) c.index_mut.result.now c.self.invariant (ap (λ (e : Numbered). e.number) c.index_mut.ensures.value)
