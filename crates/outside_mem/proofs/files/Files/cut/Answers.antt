use Rattle.std.proofs.Common.{◌≡◌, ◌≤◌, ◌<◌, ap, ◌∙◌, List, ℕ, length, refl, subst, sym, arith}
use Rattle.outside_api.specs.Disk.{FileState, cut_to, empty_file}
use Rattle.outside_mem.specs.MemFile.{IsFirst}
use Rattle.outside_mem.specs.declared.files.Numbered.{Numbered}
use Rattle.outside_mem.proofs.PlaceLemmas.{finds_set}
use Rattle.outside_mem.proofs.FileLemmas.{file_at, changes_over, changes_absent, absent_bytes}
use Rattle.outside_mem.proofs.files.Files.cut.Goals as goal

pub cut-requires : goal.cut-requires
cut-requires c =
    let es = c.self.inside.entries.items in
    let less = subst (λ (l : List Numbered). c.in-Some.i < length l) c.as_slice.ensures.value c.in-Some.ensures.within in
    let first = subst (λ (l : List Numbered). IsFirst l c.args.number c.in-Some.i) c.as_slice.ensures.value c.in-Some.ensures.found in
    let file = file_at es c.args.self.now c.args.number c.in-Some.i c.index_mut.result.now c.self.view_is less first c.index_mut.ensures.value in
    subst (λ (f : FileState). c.args.size ≤ length f.bytes) (sym file) c.requires

pub returns-in-Some : goal.returns-in-Some
returns-in-Some c =
    let es = c.self.inside.entries.items in
    let less = subst (λ (l : List Numbered). c.in-Some.i < length l) c.as_slice.ensures.value c.in-Some.ensures.within in
    let first = subst (λ (l : List Numbered). IsFirst l c.args.number c.in-Some.i) c.as_slice.ensures.value c.in-Some.ensures.found in
    changes_over c.args.self.now es c.args.self.now c.args.number c.in-Some.i c.index_mut.result.now c.cut.new.self (cut_to c.args.size) (λ k. refl) c.self.view_is less first c.index_mut.ensures.value c.cut.ensures

pub returns-in_default : goal.returns-in_default
returns-in_default c =
    let same = c.as_slice.ensures.value ∙ c.self.view_is in
    let none = absent_bytes _ _ c.args.number same c.in_default.ensures.none in
    let zero : c.args.size ≡ 0 = omega (arith, c.requires, ap length none) in
    changes_absent _ c.args.self.now c.args.number (cut_to c.args.size) same c.in_default.ensures.none (ap (λ (k : ℕ). cut_to k empty_file) zero)

pub invariant_of-self : goal.invariant_of-self
invariant_of-self c =
    finds_set c.self.inside.places c.self.inside.entries.items c.in-Some.i (record { number = c.index_mut.result.now.number; file = c.cut.new.self }) c.index_mut.result.now c.self.invariant (ap (λ (e : Numbered). e.number) c.index_mut.ensures.value)
