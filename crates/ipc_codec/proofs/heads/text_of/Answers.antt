use Rattle.std.proofs.Common.{sym, ◌≡◌, ◌-◌, ◌+◌, ◌<◌, length, take, drop, arith, nat_eq}
use Rattle.std.proofs.lemmas.List.{take_all, get_or-take, length-drop, length-take}
use Rattle.std.proofs.lemmas.List.Quantifiers.{position-Some}
use Rattle.std.proofs.lemmas.Bool.{eqb-true}
use Rattle.ipc_codec.proofs.ReadingLemmas.{text_at-none, text_at-some, positive}
use Rattle.ipc_codec.proofs.heads.text_of.Goals as goal

pub returns-in-None-clause-found : goal.returns-in-None-clause-found
returns-in-None-clause-found c = text_at-none c.args.bytes.now c.in-None.ensures.none

pub returns-in-Some-clause-found : goal.returns-in-Some-clause-found
returns-in-Some-clause-found c =
    let bytes = c.args.bytes.now in
    let end = c.in-Some.end in
    let p = position-Some (λ b. nat_eq b 0) bytes end 0 (sym c.in-Some.ensures.first) in
    let all : take (length bytes - (end + 1)) (drop (end + 1) bytes) ≡ drop (end + 1) bytes = take_all _ _ (omega (arith, length-drop (end + 1) bytes)) in
    rw all (text_at-some bytes end p.0 (eqb-true _ _ p.1) (λ k below. positive _ (p.2 k below)))

pub returns-in-Some-clause-no_nul : goal.returns-in-Some-clause-no_nul
returns-in-Some-clause-no_nul c k d within =
    let bytes = c.args.bytes.now in
    let end = c.in-Some.end in
    let p = position-Some (λ b. nat_eq b 0) bytes end d (sym c.in-Some.ensures.first) in
    let below : k < end = omega (arith, length-take end bytes) in
    rw (get_or-take end bytes k d below) (positive _ (p.2 k below))
