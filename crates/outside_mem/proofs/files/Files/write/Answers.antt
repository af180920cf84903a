use Rattle.std.proofs.Common.{ap, ◌≤◌, ◌<◌, ◌∙◌, List, length, subst, sym, OnOk, Result, Ok, Err}
use Rattle.outside_api.specs.Disk.{FileState, written, put}
use Rattle.outside_mem.specs.MemFile.{IsFirst}
use Rattle.outside_mem.specs.declared.files.Numbered.{Numbered}
use Rattle.outside_mem.proofs.PlaceLemmas.{finds_set}
use Rattle.outside_mem.proofs.FileLemmas.{file_at, changes_over}
use Rattle.outside_mem.proofs.files.Files.write.Goals as goal

pub write-requires-clause-within : goal.write-requires-clause-within
write-requires-clause-within c =
    let es = c.self.inside.entries.items in
    let less = subst (λ (l : List Numbered). c.in_ok-i.i < length l) (sym c.self.view_is) c.in_ok-i.ensures.within in
    let first = subst (λ (l : List Numbered). IsFirst l c.args.number c.in_ok-i.i) (sym c.self.view_is) c.in_ok-i.ensures.first in
    let file = file_at es c.entry.new.self c.args.number c.in_ok-i.i c.index_mut.result.now c.self.view_is less first c.index_mut.ensures.value in
    subst (λ (f : FileState). c.args.at ≤ length f.bytes) (sym (file ∙ c.in_ok-i.ensures.same c.args.number)) c.requires.within

on_ok : {T E : Type 0} (r : Result T E) (P Q : Type 0) → (P → Q) → OnOk r P → OnOk r Q
on_ok (Ok x) P Q f p = f p
on_ok (Err e) P Q f p = tt

pub returns-clause-ok : goal.returns-clause-ok
returns-clause-ok c =
    let es = c.self.inside.entries.items in
    let less = subst (λ (l : List Numbered). c.in_ok-i.i < length l) (sym c.self.view_is) c.in_ok-i.ensures.within in
    let first = subst (λ (l : List Numbered). IsFirst l c.args.number c.in_ok-i.i) (sym c.self.view_is) c.in_ok-i.ensures.first in
    on_ok c.write.result _ _
    (changes_over c.args.self.now es c.entry.new.self c.args.number c.in_ok-i.i c.index_mut.result.now c.write.new.self
    (λ (f : FileState). written f c.args.at (length c.args.bytes.now) (put f.bytes c.args.at c.args.bytes.now))
    c.in_ok-i.ensures.same c.self.view_is less first c.index_mut.ensures.value)
    c.write.ensures.ok

pub invariant_of-self : goal.invariant_of-self
invariant_of-self c =
    finds_set c.self.inside.places c.self.inside.entries.items c.in_ok-i.i (record { number = c.index_mut.result.now.number; file = c.write.new.self }) c.index_mut.result.now c.self.invariant (ap (λ (e : Numbered). e.number) c.index_mut.ensures.value)
