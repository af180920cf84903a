-- The events and the bytes of steps.
use Rattle.std.proofs.Common.{◌≡◌, ℕ, ◌+◌, true, false, Bool, List, [], ◌∷◌, ◌++◌, length, map, refl, ap}
use Rattle.std.specs.List.{flat_map}
use Rattle.q_values.specs.declared.limits.Limits.{Limits}
use Rattle.session.specs.Acting.{heard_of}
use Rattle.session.specs.Heard.{Hears, idles_heard}
use Rattle.session.specs.Run.{sent_in}
use Rattle.session.specs.Served.{Event, greeted, asked, idled, published, Step}

abbrev pub events : List Step → List Event
events = map (λ s. s.event)

abbrev pub parts : List Step → List (List ℕ)
parts = map (λ s. s.deed.sent)

pub sent_is : (steps : List Step) → flat_map (λ part. part) (parts steps) ≡ sent_in steps
sent_is [] = refl
sent_is (s ∷ steps) = ap (λ l. s.deed.sent ++ l) (sent_is steps)

-- publications have no bytes
pub hears-heard : (limits : Limits) (g h : Bool) (place : ℕ) (bytes : List ℕ) (es : List Event) → Hears limits g place bytes (heard_of es) h → Hears limits g place bytes es h
hears-heard limits g h place bytes [] p = p
hears-heard limits false h place bytes (greeted c ∷ es) p = (p.0, p.1, p.2, p.3, hears-heard limits true h (place + length p.0) p.1 es p.4)
hears-heard limits true h place bytes (greeted c ∷ es) p = absurd p
hears-heard limits false h place bytes (asked m ∷ es) p = absurd p
hears-heard limits true h place bytes (asked m ∷ es) p = (p.0, p.1, p.2, p.3, hears-heard limits true h (place + length p.0) p.1 es p.4)
hears-heard limits false h place bytes (idled ∷ es) p = hears-heard limits false h place bytes es p
hears-heard limits true h place bytes (idled ∷ es) p = hears-heard limits true h place bytes es p
hears-heard limits false h place bytes (published ∷ es) p = hears-heard limits false h place bytes es p
hears-heard limits true h place bytes (published ∷ es) p = hears-heard limits true h place bytes es p

pub idles-heard : (es : List Event) → idles_heard es ≡ idles_heard (heard_of es)
idles-heard [] = refl
idles-heard (greeted c ∷ es) = idles-heard es
idles-heard (asked m ∷ es) = idles-heard es
idles-heard (idled ∷ es) = ap (λ n. n + 1) (idles-heard es)
idles-heard (published ∷ es) = idles-heard es

pub heard-append : (es fs : List Event) → heard_of (es ++ fs) ≡ heard_of es ++ heard_of fs
heard-append [] fs = refl
heard-append (greeted c ∷ es) fs = ap (λ l. greeted c ∷ l) (heard-append es fs)
heard-append (asked m ∷ es) fs = ap (λ l. asked m ∷ l) (heard-append es fs)
heard-append (idled ∷ es) fs = ap (λ l. idled ∷ l) (heard-append es fs)
heard-append (published ∷ es) fs = heard-append es fs
