use Rattle.std.proofs.Common.{◌≡◌, ◌≤◌, ◌<◌, ◌^◌, ℕ, ℤ, pos, List, Bor, Option, Some, option_map, w64, to_z, of_z, sym, subst, ap₂, arith, rules, refl}
use Rattle.std.proofs.lemmas.Int.{to_z_pos}
use Rattle.plant_words.specs.Asked.{IsStep, IsMoment, Ticks}
use Rattle.plant_words.specs.declared.command.Ticking.{Ticking}
use Rattle.plant_words.proofs.values.clock_of.Goals as goal

abbrev ticking : ℤ → ℤ → Option Ticking
ticking start step = Some (record { start = start; step = step })

pub returns-in_ok-start-in-Some-clock-clause-read :
    goal.returns-in_ok-start-in-Some-clock-clause-read
returns-in_ok-start-in-Some-clock-clause-read c =
    let n = c.in-Some.step in
    let short : n ≤ 86400000000000 = c.in-Some.ensures.within in
    let start : to_z w64 (of_z w64 c.in_ok-start-in-Some-clock.start) ≡ c.in_ok-start-in-Some-clock.start = search rules in
    let step : to_z w64 n ≡ pos n = to_z_pos w64 n (omega arith) in
    let is_step : IsStep (option_map (λ s. s.now) c.args.step) n = (c.in-Some.ensures.step n).0 refl in
    let ticks : Ticks (Some c.in-Some-clock.text.now) n (ticking (to_z w64 (of_z w64 c.in_ok-start-in-Some-clock.start)) (to_z w64 n)) =
    (c.in_ok-start-in-Some-clock.start, c.in_ok-start-in-Some-clock.ensures.read, ap₂ ticking start step) in
    (n, is_step, subst (λ (t : Option (Bor (List ℕ))). Ticks (option_map (λ s. s.now) t) n (ticking (to_z w64 (of_z w64 c.in_ok-start-in-Some-clock.start)) (to_z w64 n))) (sym c.in-Some-clock.is) ticks)
