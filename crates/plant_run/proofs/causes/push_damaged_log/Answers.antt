use Rattle.std.proofs.Common.{◌≡◌, ℕ, List, ◌++◌, refl, append_assoc}
use Rattle.std.proofs.lemmas.Result.{on_ok_weaker}
use Rattle.std.specs.Fmt.{decimal}
use Rattle.std.specs.Prelude.{codes}
use Rattle.plant_run.specs.Causes.{log_words}
use Rattle.plant_run.proofs.causes.push_damaged_log.Goals as goal

-- the parts that were appended one after the other, as one list
joined : (old before text at n after m end dated damaged counted all : List ℕ)
    → dated ≡ old ++ (before ++ text) → damaged ≡ dated ++ (at ++ n) → counted ≡ damaged ++ (after ++ m) → all ≡ counted ++ end
    → all ≡ old ++ (before ++ text ++ at ++ n ++ after ++ m ++ end)
joined old before text at n after m end dated damaged counted all d g k a = rw (a, k, g, d) (simp append_assoc)

pub returns : goal.returns
returns c =
    let dated = c.in_ok-push_dated.ensures in
    let text = dated.1.0 in
    let before = rw dated.1.2 at dated.2 in
    on_ok_weaker c.push.result
    (λ all. (
      log_words text c.args.chunks c.args.bytes,
      (text, dated.1.1, refl),
      joined c.args.line.now.items (codes "its log of ") text (codes " is damaged at byte ") (decimal c.args.bytes) (codes ", after ") (decimal c.args.chunks)
          (codes " updates") _ _ _ _ before c.in_ok-push_numbered.ensures c.in_ok-push_numbered-2.ensures all,
    ))
    c.push.ensures
