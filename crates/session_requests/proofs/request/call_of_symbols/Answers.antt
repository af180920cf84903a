use Rattle.std.proofs.Common.{sym, ◌∙◌, ◌≡◌, length}
use Rattle.session_requests.proofs.RequestLemmas.{no_symbols, mistyped_symbols, other_symbols, sub_symbols}
use Rattle.session_requests.proofs.request.call_of_symbols.Goals as goal

pub returns-then-len-ne3 : goal.returns-then-len-ne3
returns-then-len-ne3 c = no_symbols c.args.symbols.now (λ e. c.if-len-ne3.true (c.len.ensures ∙ e))

pub returns-then-eq : goal.returns-then-eq
returns-then-eq c =
    let three : length c.args.symbols.now ≡ 3 = sym c.len.ensures ∙ c.if-len-ne3.false in
    mistyped_symbols c.args.symbols.now c.at-function.result.now three c.at-function.ensures.value (rw c.as_slice.ensures at (sym c.eq.ensures ∙ c.if-eq.true))

pub returns-then-eq-2 : goal.returns-then-eq-2
returns-then-eq-2 c =
    let three : length c.args.symbols.now ≡ 3 = sym c.len.ensures ∙ c.if-len-ne3.false in
    let not_upd = rw c.as_slice.ensures at (sym c.eq.ensures ∙ c.if-eq.false) in
    let is_sub = rw c.as_slice-2.ensures at (sym c.eq-2.ensures ∙ c.if-eq-2.true) in
    rw (sub_symbols c.args.symbols.now c.at-function.result.now c.at.result.now c.at-then-eq-2.result.now three c.at-function.ensures.value c.at.ensures.value
    c.at-then-eq-2.ensures.value not_upd is_sub) c.subscription_to.ensures

pub returns : goal.returns
returns c =
    let not_upd = rw c.as_slice.ensures at (sym c.eq.ensures ∙ c.if-eq.false) in
    let not_sub = rw c.as_slice-2.ensures at (sym c.eq-2.ensures ∙ c.if-eq-2.false) in
    other_symbols c.args.symbols.now c.at-function.result.now c.at-function.ensures.value not_upd not_sub
