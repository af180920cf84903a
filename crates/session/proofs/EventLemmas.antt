-- What a session does with each thing that it hears.
use Rattle.std.proofs.Common.{◌≡◌, ◌<◌, ◌+◌, ℕ, ℤ, Bool, true, false, List, [], ◌∷◌, length, min, Option, refl, sym, subst}
use Rattle.std.proofs.lemmas.List.{append-nil}
use Rattle.outside_api.specs.Link.{LinkView}
use Rattle.outside_api.specs.Told.{Tells}
use Rattle.plant_core.specs.Access.{AccessView}
use Rattle.ipc_frame.specs.Stream.{Message, built, unbuilt, moved, IsFrame, IsGreeting, whole, front_of}
use Rattle.ipc_frame.specs.View.{FramerView, told_place}
use Rattle.q_values.specs.Tree.{Tree}
use Rattle.q_values.specs.declared.limits.Limits.{Limits}
use Rattle.q_values.specs.declared.turn.Turn.{Turn}
use Rattle.q_values.specs.declared.turn.Turn.TheVariants as t
use Rattle.session.specs.Acting.{Finishes, ServesHeard}
use Rattle.link_reader.specs.Arrival.{ReaderView, Arrives, HoldsMessage, heard_by}
use Rattle.session.specs.Ended.{Goes}
use Rattle.session.specs.Heard.{Hears}
use Rattle.session.specs.Run.{world}
use Rattle.session.specs.Served.{greeted, asked, Deed}
use Rattle.session.specs.State.{State}
use Rattle.session.specs.declared.end.End.{End}
use Rattle.link_reader.specs.declared.reader.Arrival.TheVariants as r
use Rattle.session.proofs.PerformLemmas.{performs-one}
use Rattle.session.proofs.ServedLemmas.{advances_idle}
use Rattle.session.proofs.StepLemmas.{heard_step, served_step}
use Rattle.session.proofs.ToldLemmas.{told-nil}

-- the handshake that is held was heard
hears_greeting : (limits : Limits) (g : Bool) (place : ℕ) (held : List ℕ) (c : ℕ) → g ≡ false → IsGreeting limits held c → Hears limits g place held (greeted c ∷ []) true
hears_greeting limits false place held c e h = (held, [], sym (append-nil held), h, (refl, refl))
hears_greeting limits true place held c e h = absurd cc

pub greeting_goes : (limits : Limits) (place : ℕ) (l m l' : LinkView) (k : Option (List ℤ)) (n n' : Option (List Turn)) (a : AccessView) (u : State) (v s : ReaderView) (left c : ℕ) (result : Option End)
    → u.known ≡ length a.seen → u.due ≡ false → v.framer.limits ≡ limits → v.framer.place ≡ told_place place → 0 < left
    → Arrives l m v s (r.Greeting c) → Tells n n' (t.Greeted c ∷ []) → Finishes m l' (min c 3 ∷ []) result
    → Goes limits place (world l k n a) (world l' k n' a) u u v s left left result
greeting_goes limits place l m l' k n n' a u v s left c result knows none same at some h noted finished =
    let deed : Deed = record { turns = t.Greeted c ∷ []; sent = min c 3 ∷ []; readings = []; made = []; snapshots = 0; ticks = 0 } in
    let performs = performs-one (world l k n a) (world l' k n' a) u u (greeted c) (greeted c ∷ []) deed result knows knows (sym (told-nil k)) noted
    (advances_idle a a [] (t.Greeted c ∷ []) 0 0 (record { alone = λ _. refl }) (rw (append-nil a.seen, append-nil a.mine) refl) (record { each = (tt, tt); last = refl }))
    (refl, record { noted = refl; answered = refl; still = record { unread = refl; unmade = refl; unasked = (refl, refl) } })
    (none, none) (subst (λ x. Finishes x l' (min c 3 ∷ []) result) h.0 finished) refl in
    heard_step limits place (world l k n a) (world l' k n' a) u u v s left (greeted c) result same at some h.3
    (hears_greeting limits v.framer.greeted place v.framer.held c h.1 (subst (λ (x : Limits). IsGreeting x v.framer.held c) same h.2)) refl performs

-- the message that is held was heard
hears_message : (limits : Limits) (g : Bool) (place : ℕ) (held : List ℕ) (m : Message) → g ≡ true → IsFrame limits place held m → Hears limits g place held (asked m ∷ []) true
hears_message limits true place held m e h = (held, [], sym (append-nil held), h, (refl, refl))
hears_message limits false place held m e h = absurd cc

frame_of : (limits : Limits) (place : ℕ) (f : FramerView) (here : Message) → f.limits ≡ limits → front_of f.limits f.held ≡ whole (length f.held) here → IsFrame limits place f.held (moved place here)
frame_of limits place f here same h = (here, subst (λ (m : Limits). front_of m f.held ≡ whole (length f.held) here) same h, refl)

pub message_goes : (limits : Limits) (place : ℕ) (l m l' : LinkView) (k k' : Option (List ℤ)) (n n' : Option (List Turn)) (a a' : AccessView) (u w : State) (v s : ReaderView) (left : ℕ) (sync : Bool) (x : Tree) (result : Option End)
    → v.framer.limits ≡ limits → v.framer.place ≡ told_place place → 0 < left
    → m ≡ l → HoldsMessage v.framer sync x → s ≡ heard_by v
    → ServesHeard (asked (record { sync = sync; content = built x })) (world m k n a) (world l' k' n' a') u w result
    → Goes limits place (world l k n a) (world l' k' n' a') u w v s left left result
message_goes limits place l m l' k k' n n' a a' u w v s left sync x result same at some link held is serves =
    let message : Message = record { sync = sync; content = built x } in
    served_step limits place (world l k n a) (world l' k' n' a') u w v s left (asked message) result same at some is held.0
    (hears_message limits v.framer.greeted place v.framer.held message held.0 (frame_of limits place v.framer message same held.1)) refl
    (subst (λ y. ServesHeard (asked message) (world y k n a) (world l' k' n' a') u w result) link serves)

pub outside_goes : (limits : Limits) (place : ℕ) (l m l' : LinkView) (k k' : Option (List ℤ)) (n n' : Option (List Turn)) (a a' : AccessView) (u w : State) (v s : ReaderView) (left : ℕ) (sync : Bool) (result : Option End)
    → v.framer.limits ≡ limits → v.framer.place ≡ told_place place → 0 < left
    → Arrives l m v s (r.Outside sync)
    → ((at : ℕ) → ServesHeard (asked (record { sync = sync; content = unbuilt at })) (world m k n a) (world l' k' n' a') u w result)
    → Goes limits place (world l k n a) (world l' k' n' a') u w v s left left result
outside_goes limits place l m l' k k' n n' a a' u w v s left sync result same at some h serves =
    let here : Message = record { sync = sync; content = unbuilt h.1.0 } in
    served_step limits place (world l k n a) (world l' k' n' a') u w v s left (asked (moved place here)) result same at some h.2 h.1.1.0
    (hears_message limits v.framer.greeted place v.framer.held (moved place here) h.1.1.0 (frame_of limits place v.framer here same h.1.1.1)) refl
    (subst (λ y. ServesHeard (asked (moved place here)) (world y k n a) (world l' k' n' a') u w result) h.0 (serves (place + h.1.0)))
