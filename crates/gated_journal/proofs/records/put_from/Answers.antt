use Rattle.std.proofs.Common.{◌≡◌, ◌++◌, ◌-◌, ℕ, List, length, vec_len, replicate, sym, ◌∙◌, ap, take, drop, take-append-drop, append_assoc}
use Rattle.std.proofs.lemmas.List.{drop_at}
use Rattle.gated_journal.proofs.records.put_from.Goals as goal

pub returns-in_err-resize-clause-kept : goal.returns-in_err-resize-clause-kept
returns-in_err-resize-clause-kept c =
    (drop c.args.at c.args.bytes.now.items, c.in_err-resize.ensures.items ∙ sym (take-append-drop c.args.at c.args.bytes.now.items))

pub returns-in_err-extend_from_slice-clause-kept : goal.returns-in_err-extend_from_slice-clause-kept
returns-in_err-extend_from_slice-clause-kept c =
    (replicate (c.args.at - vec_len c.args.bytes.now) 0, c.in_err-extend_from_slice.ensures.items ∙ c.in_ok-resize.ensures.items)

pub returns-clause-put : goal.returns-clause-put
returns-clause-put c =
    let size : length c.resize.new.self.items ≡ c.args.at = sym c.resize.new.self.ok.0 ∙ c.in_ok-resize.ensures.len in
    ap (drop c.args.at) c.in_ok-extend_from_slice.ensures.items ∙ drop_at c.resize.new.self.items c.args.last.now c.args.at size

pub returns-clause-kept : goal.returns-clause-kept
returns-clause-kept c = (
  replicate (c.args.at - vec_len c.args.bytes.now) 0 ++ c.args.last.now,
  c.in_ok-extend_from_slice.ensures.items ∙ ap (λ (l : List ℕ). l ++ c.args.last.now) c.in_ok-resize.ensures.items
      ∙ append_assoc (take c.args.at c.args.bytes.now.items) (replicate (c.args.at - vec_len c.args.bytes.now) 0) c.args.last.now,
)
