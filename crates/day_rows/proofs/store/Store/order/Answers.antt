use Rattle.std.proofs.Common.{List, ℕ, ap, ◌∙◌, sym, subst, map, take}
use Rattle.std.specs.List.{flat_map}
use Rattle.std.proofs.lemmas.List.{take-map}
use Rattle.q_values.specs.Order.{atom_cmp}
use Rattle.q_values.specs.declared.atom.Atom.{Atom}
use Rattle.q_values.specs.declared.atom.Atom.TheVariants as a
use Rattle.q_groups.specs.Groups.{AreGroups, same_atom}
use Rattle.day_rows.specs.Blocks.{updates_in}
use Rattle.day_rows.specs.Joined.{joined}
use Rattle.day_rows.proofs.store.Store.order.Goals as goal

pub returns : goal.returns
returns c =
    let symbol : List ℕ → Atom = λ t. a.Symbol t in
    let found = flat_map (λ part. part.now) c.deref.result.now in
    let same = sym (take-map symbol c.args.n found) ∙ ap (take c.args.n) (ap (λ parts. map symbol (flat_map (λ part. part.now) parts)) c.deref.ensures.value ∙ c.in_ok-parts.ensures) in
    c.in_ok-order.ensures (take c.args.n (joined c.args.table c.args.column (updates_in c.args.self.now.blocks c.args.self.now.last)))
    (subst (λ (l : List Atom). AreGroups same_atom atom_cmp l c.in_ok-groups.groups) same c.in_ok-groups.ensures)
