-- What serving a request gives.
use Rattle.std.proofs.Common.{◌≡◌, ◌+◌, ℕ, ℤ, Bool, true, false, if◌then◌else◌, List, [], ◌∷◌, ◌++◌, length, refl, sym, ap, ◌∙◌, arith, append_assoc, Option, Some, None, codes, inl, inr}
use Rattle.std.proofs.lemmas.List.{append-nil, length-append}
use Rattle.day_rows.specs.declared.entry.Entry.{Entry}
use Rattle.day_rows.specs.declared.entry.Entry.TheVariants as e
use Rattle.outside_api.specs.Told.{told}
use Rattle.day_rows.specs.declared.schema.Shape.{Shape}
use Rattle.plant_core.specs.Access.{AccessView, SeesMore, Logs, Looks, Fails, Asks, next_count}
use Rattle.plant_memory.specs.Memory.{SnapshotView}
use Rattle.plant_memory.specs.Turns.{IsRefusal}
use Rattle.plant_memory.specs.Frame.{Frame}
use Rattle.plant_memory.specs.Verdict.{Verdict, refuses, verdict}
use Rattle.plant_memory.specs.declared.refusal.UpdRefusal.{UpdRefusal}
use Rattle.plant_memory.specs.declared.refusal.UpdRefusal.TheVariants as r
use Rattle.q_values.specs.Tree.{Tree, identity, wrong}
use Rattle.gateway.specs.Answer.{Subscribes, is_subscription, verdict_answer}
use Rattle.qsql_parse.specs.Verdicts.{IsVerdict}
use Rattle.qsql_parse.specs.Verdicts as verdicts
use Rattle.qsql_parse.proofs.Once.{one-verdict}
use Rattle.q_values.specs.declared.limits.Limits.{Limits}
use Rattle.q_values.specs.declared.turn.Turn.{Turn}
use Rattle.q_values.specs.declared.turn.Turn.TheVariants as t
use Rattle.session.specs.Answering.{Does, ServesValue, AnswersRefusal, turns_by, roll_turn, sent_by, deed_of}
use Rattle.session.specs.Lawful.{AllGoOn, last_length}
use Rattle.session_replies.specs.Replies.{reply_bytes}
use Rattle.session_replies.specs.Replies as replies
use Rattle.session_replies.specs.Reply.{response, reply, replied, refusal_text}
use Rattle.session_requests.specs.Request.{Request, update, mistyped, text, other}
use Rattle.session.specs.Run.{Advances, advanced}
use Rattle.session.specs.Served.{Deed, IsDeclined, IsUnserved, entry_turns}
use Rattle.session.specs.declared.answer.Answer.{Answer}
use Rattle.session_replies.specs.declared.reply.Reply.{Reply}
use Rattle.session.proofs.GoingLemmas.{advances, just}
use Rattle.session.proofs.MadeLemmas.{AreAt, accepted_at, AreBefore, failed_at}
use Rattle.session.proofs.ToldLemmas.{told-nil}

-- what the turns of logged entries report
record Tells (n : ℕ) (now : ℤ) (entries : List Entry) (turns : List Turn) : Type 0 where
  noted : turns ≡ entry_turns n now entries
  each : AllGoOn just n turns
  last : last_length n turns ≡ n + length entries

logged_turns : (n : ℕ) (now : ℤ) (entries : List Entry) (rolled : Option ℕ) (place : ℕ) → AreAt n entries rolled place → Tells n now entries (turns_by (roll_turn rolled now) (t.Logged place now))
logged_turns n now [] rolled place at = absurd at
logged_turns n now (e.Upd by table columns ∷ []) None place at = record { noted = rw at refl; each = (sym at, tt); last = rw at refl }
logged_turns n now (e.Upd by table columns ∷ []) (Some rolled) place at = absurd at
logged_turns n now (e.Upd by table columns ∷ x ∷ entries) rolled place at = absurd at
logged_turns n now (e.Fault by ∷ entries) rolled place at = absurd at
logged_turns n now (e.Roll by date ∷ []) rolled place at = absurd at
logged_turns n now (e.Roll by date ∷ e.Roll by' date' ∷ entries) rolled place at = absurd at
logged_turns n now (e.Roll by date ∷ e.Fault by' ∷ entries) rolled place at = absurd at
logged_turns n now (e.Roll by date ∷ e.Upd by' table columns ∷ x ∷ entries) rolled place at = absurd at
logged_turns n now (e.Roll by date ∷ e.Upd by' table columns ∷ []) None place at = absurd at
logged_turns n now (e.Roll by date ∷ e.Upd by' table columns ∷ []) (Some rolled) place at =
    record { noted = rw (at.0, at.1) refl; each = (sym at.0, (rw at.0 (sym at.1), tt)); last = rw at.1 (omega arith) }

pub does_logged : (a b : AccessView) (k k' : Option (List ℤ)) (limits : Limits) (sync : Bool) (table : List ℕ) (items : List Tree) (now : ℤ) (rolled : Option ℕ) (place : ℕ) (answer : Answer)
    → a.frame.limits ≡ limits
    → k' ≡ told k (now ∷ [])
    → Logs a b table items now rolled place
    → answer.roll ≡ roll_turn rolled now → answer.turn ≡ t.Logged place now → sent_by answer.reply ≡ replied sync (reply limits identity)
    → Does (ServesValue a.frame a.by b.seen sync (update table items)) k k' a b answer
does_logged a b k k' limits sync table items now rolled place answer same read l roll turn answered =
    let n = length (a.seen ++ l.others) in
    let places = accepted_at a.frame a.by (a.seen ++ l.others) l.entries table items now rolled place l.accepted l.rolled_is l.last in
    let tells = logged_turns n now l.entries rolled place places in
    let turns : turns_by answer.roll answer.turn ≡ turns_by (roll_turn rolled now) (t.Logged place now) = rw (roll, turn) refl in
    let seen : b.seen ≡ (a.seen ++ l.others) ++ l.entries = ap (λ (v : AccessView). v.seen) l.after in
    let each : AllGoOn just n (turns_by answer.roll answer.turn) = rw turns tells.each in
    let last : last_length n (turns_by answer.roll answer.turn) ≡ length ((a.seen ++ l.others) ++ l.entries) = ap (λ ts. last_length n ts) turns ∙ tells.last ∙ sym (length-append (a.seen ++ l.others) l.entries) in
    let after = l.after ∙ ap (λ s. record a { seen = s; mine = a.mine ++ l.entries }) (append_assoc a.seen l.others l.entries) in
    record {
      readings = now ∷ [];
      made = l.entries;
      asked = 0;
      ticked = 0;
      clock = read;
      access = advances a b l.others l.entries (turns_by answer.roll answer.turn) 0 0 l.saw after each last;
      done = inl (inl (record {
        front = a.seen ++ l.others;
        now = now;
        accepted = l.accepted;
        stands = record { more = []; whole = seen ∙ sym (append-nil ((a.seen ++ l.others) ++ l.entries)) };
        noted = turns ∙ tells.noted;
        answered = rw same answered;
        read = refl;
        unasked = (refl, refl);
      }));
    }

failed_turns : (n : ℕ) (now : ℤ) (before : List Entry) (by : ℕ) (rolled : Option ℕ) (place : ℕ) → AreBefore n before rolled place → Tells n now (before ++ e.Fault by ∷ []) (turns_by (roll_turn rolled now) (t.Failed place now))
failed_turns n now [] by None place at = record { noted = rw at refl; each = (sym at, tt); last = rw at refl }
failed_turns n now [] by (Some rolled) place at = absurd at
failed_turns n now (e.Upd own table columns ∷ before) by rolled place at = absurd at
failed_turns n now (e.Fault own ∷ before) by rolled place at = absurd at
failed_turns n now (e.Roll own date ∷ x ∷ before) by rolled place at = absurd at
failed_turns n now (e.Roll own date ∷ []) by None place at = absurd at
failed_turns n now (e.Roll own date ∷ []) by (Some rolled) place at =
    record { noted = rw (at.0, at.1) refl; each = (sym at.0, (rw at.0 (sym at.1), tt)); last = rw at.1 (omega arith) }

pub does_failed : (a b : AccessView) (k k' : Option (List ℤ)) (limits : Limits) (sync : Bool) (table : List ℕ) (items : List Tree) (now : ℤ) (rolled : Option ℕ) (place : ℕ) (answer : Answer)
    → a.frame.limits ≡ limits
    → k' ≡ told k (now ∷ [])
    → Fails a b table items now rolled place
    → answer.roll ≡ roll_turn rolled now → answer.turn ≡ t.Failed place now → sent_by answer.reply ≡ replied sync (reply limits (wrong (codes "disk")))
    → Does (ServesValue a.frame a.by b.seen sync (update table items)) k k' a b answer
does_failed a b k k' limits sync table items now rolled place answer same read l roll turn answered =
    let n = length (a.seen ++ l.others) in
    let made = l.before ++ e.Fault a.by ∷ [] in
    let places = failed_at a.frame a.by (a.seen ++ l.others) l.before l.rest l.failed table items now rolled place l.accepted l.rolled_is l.last in
    let tells = failed_turns n now l.before a.by rolled place places in
    let turns : turns_by answer.roll answer.turn ≡ turns_by (roll_turn rolled now) (t.Failed place now) = rw (roll, turn) refl in
    let fault = e.Fault a.by ∷ [] in
    let joined : ((a.seen ++ l.others) ++ l.before) ++ fault ≡ (a.seen ++ l.others) ++ made = append_assoc (a.seen ++ l.others) l.before fault in
    let seen : b.seen ≡ (a.seen ++ l.others) ++ made = ap (λ (v : AccessView). v.seen) l.after ∙ joined in
    let each : AllGoOn just n (turns_by answer.roll answer.turn) = rw turns tells.each in
    let last : last_length n (turns_by answer.roll answer.turn) ≡ length ((a.seen ++ l.others) ++ made) = ap (λ ts. last_length n ts) turns ∙ tells.last ∙ sym (length-append (a.seen ++ l.others) made) in
    let whole : ((a.seen ++ l.others) ++ l.before) ++ fault ≡ a.seen ++ (l.others ++ made) = joined ∙ append_assoc a.seen l.others made in
    let own : (a.mine ++ l.before) ++ fault ≡ a.mine ++ made = append_assoc a.mine l.before fault in
    let after = l.after ∙ (λ i. record a { seen = whole i; mine = own i }) in
    record {
      readings = now ∷ [];
      made = made;
      asked = 0;
      ticked = 0;
      clock = read;
      access = advances a b l.others made (turns_by answer.roll answer.turn) 0 0 l.saw after each last;
      done = inl (inr (inr (record {
        front = a.seen ++ l.others;
        now = now;
        before = l.before;
        failed = l.failed;
        rest = l.rest;
        accepted = l.accepted;
        made = refl;
        stands = record { more = []; whole = seen ∙ sym (append-nil ((a.seen ++ l.others) ++ made)) };
        noted = turns ∙ tells.noted;
        answered = rw same answered;
        read = refl;
        unasked = (refl, refl);
      })));
    }

-- an access that made nothing, whose turns tell its length or nothing
pub record Idles (n : ℕ) (turns : List Turn) : Type 0 where
  pub each : AllGoOn just n turns
  pub last : last_length n turns ≡ n

pub advances_idle : (a b : AccessView) (others : List Entry) (turns : List Turn) (asked ticked : ℕ) → SeesMore a others → b ≡ advanced a others [] asked ticked → Idles (length (a.seen ++ others)) turns → Advances a b turns [] asked ticked
advances_idle a b others turns asked ticked saw after rests =
    let none : (a.seen ++ others) ++ [] ≡ a.seen ++ others = append-nil (a.seen ++ others) in
    advances a b others [] turns asked ticked saw (after ∙ ap (λ o. advanced a o [] asked ticked) (sym (append-nil others))) rests.each (rests.last ∙ ap length (sym none))

-- what refusing leaves
refuses_after : (a b : AccessView) (table : List ℕ) (items : List Tree) (now : ℤ) (count : ℕ) (why : UpdRefusal) (l : Looks a b table items now count why) → b ≡ advanced a l.others [] 0 0
refuses_after a b table items now count why l = l.after ∙ ap (λ m. record a { seen = a.seen ++ l.others; mine = m }) (sym (append-nil a.mine))

refused_is : (limits : Limits) (v : Verdict) (why : UpdRefusal) (made : Reply) → IsRefusal v why → replies.Refuses limits why made → (v ≡ refuses why) × (reply_bytes made ≡ reply limits (wrong (refusal_text why)))
refused_is limits v (r.NoTable name) made h m = (h, m)
refused_is limits v r.Length made h m = (h, m)
refused_is limits v (r.WrongType column) made h m = (h, m)
refused_is limits v r.MoreThanOneDay made h m = (h, m)
refused_is limits v r.Limit made h m = (h, m)
refused_is limits v r.NoMemory made h m = absurd m

pub does_refused : (a b : AccessView) (k k' : Option (List ℤ)) (limits : Limits) (sync : Bool) (table : List ℕ) (items : List Tree) (now : ℤ) (count : ℕ) (why : UpdRefusal) (answer : Answer)
    → a.frame.limits ≡ limits
    → k' ≡ told k (now ∷ [])
    → Looks a b table items now count why
    → AnswersRefusal limits sync count now why answer
    → Does (ServesValue a.frame a.by b.seen sync (update table items)) k k' a b answer
does_refused a b k k' limits sync table items now count why answer same read l (inl r) =
    let turns : turns_by answer.roll answer.turn ≡ t.Refused count now ∷ [] = rw (r.roll, r.turn) refl in
    let is = refused_is limits (verdict a.frame a.by (a.seen ++ l.others) table items now) why r.made l.refused r.text in
    let seen : b.seen ≡ a.seen ++ l.others = ap (λ (v : AccessView). v.seen) l.after in
    record {
      readings = now ∷ [];
      made = [];
      asked = 0;
      ticked = 0;
      clock = read;
      access = advances_idle a b l.others (turns_by answer.roll answer.turn) 0 0 l.saw (refuses_after a b table items now count why l)
          (rw turns (record { each = (sym l.length, tt); last = l.length }));
      done = inl (inr (inl (record {
        count = count;
        front = a.seen ++ l.others;
        is_front = record { count = l.length; more = []; whole = seen ∙ sym (append-nil (a.seen ++ l.others)) };
        now = now;
        why = why;
        refused = is.0;
        noted = turns;
        answered = r.reply ∙ ap (λ bytes. replied sync bytes) (is.1 ∙ ap (λ (m : Limits). reply m (wrong (refusal_text why))) (sym same));
        read = refl;
        unmade = refl;
        unasked = (refl, refl);
      })));
    }
does_refused a b k k' limits sync table items now count why answer same read l (inr r) =
    let turns : turns_by answer.roll answer.turn ≡ t.Short ∷ [] = rw (r.roll, r.turn) refl in
    record {
      readings = now ∷ [];
      made = [];
      asked = 0;
      ticked = 0;
      clock = read;
      access = advances_idle a b l.others (turns_by answer.roll answer.turn) 0 0 l.saw (refuses_after a b table items now count why l)
          (rw turns (record { each = (tt, tt); last = refl }));
      done = inr (record { noted = turns; answered = r.reply; read = omega arith; unticked = refl; unmade = refl });
    }

-- nothing was asked of the access
pub does_nothing : (a : AccessView) (k : Option (List ℤ)) (Done : Deed → Type 0) (answer : Answer) (turn : Turn) → answer.roll ≡ None → answer.turn ≡ turn → Idles (length (a.seen ++ [])) (turn ∷ []) → Done (deed_of answer [] [] 0 0) → Does Done k k a a answer
does_nothing a k Done answer turn roll is idles done =
    let turns : turns_by answer.roll answer.turn ≡ turn ∷ [] = rw (roll, is) refl in
    record {
      readings = [];
      made = [];
      asked = 0;
      ticked = 0;
      clock = sym (told-nil k);
      access = advances_idle a a [] (turns_by answer.roll answer.turn) 0 0 (record { alone = λ _. refl }) (rw (append-nil a.seen, append-nil a.mine) refl) (rw turns idles);
      done = done;
    }

-- a turn that reports no length
pub tells_declined : (n : ℕ) → Idles n (t.Declined ∷ [])
tells_declined n = record { each = (tt, tt); last = refl }

pub tells_passed : (n : ℕ) → Idles n (t.Passed ∷ [])
tells_passed n = record { each = (tt, tt); last = refl }

pub tells_short : (n : ℕ) → Idles n (t.Short ∷ [])
tells_short n = record { each = (tt, tt); last = refl }

abbrev pub unserved_turn : Bool → Turn
unserved_turn sync = if sync then t.Declined else t.Passed

pub tells_unserved : (n : ℕ) (sync : Bool) → Idles n (unserved_turn sync ∷ [])
tells_unserved n true = tells_declined n
tells_unserved n false = tells_passed n

-- what isn't served
pub unserved_deed : (frame : Frame) (limits : Limits) (sync : Bool) (answer : Answer) → frame.limits ≡ limits → answer.roll ≡ None → answer.turn ≡ unserved_turn sync → sent_by answer.reply ≡ replied sync (reply limits (wrong (codes "nyi"))) → IsUnserved frame sync (deed_of answer [] [] 0 0)
unserved_deed frame limits true answer same roll turn answered = record { noted = rw (roll, turn) refl; answered = rw same answered; still = record { unread = refl; unmade = refl; unasked = (refl, refl) } }
unserved_deed frame limits false answer same roll turn answered = record { noted = rw (roll, turn) refl; unanswered = answered; still = record { unread = refl; unmade = refl; unasked = (refl, refl) } }

pub does_unserved : (a : AccessView) (k : Option (List ℤ)) (limits : Limits) (sync : Bool) (answer : Answer) → a.frame.limits ≡ limits → answer.roll ≡ None → answer.turn ≡ unserved_turn sync → sent_by answer.reply ≡ replied sync (reply limits (wrong (codes "nyi"))) → Does (ServesValue a.frame a.by a.seen sync other) k k a a answer
does_unserved a k limits sync answer same roll turn answered =
    does_nothing a k (ServesValue a.frame a.by a.seen sync other) answer (unserved_turn sync) roll turn (tells_unserved _ sync) (inl (unserved_deed a.frame limits sync answer same roll turn answered))

-- an update or a subscription whose parts are of wrong kinds
pub declined_deed : (frame : Frame) (limits : Limits) (sync : Bool) (answer : Answer) → frame.limits ≡ limits → answer.roll ≡ None → answer.turn ≡ t.Declined → sent_by answer.reply ≡ replied sync (reply limits (wrong (codes "type"))) → IsDeclined frame sync (codes "type") (deed_of answer [] [] 0 0)
declined_deed frame limits sync answer same roll turn answered = record { noted = rw (roll, turn) refl; answered = rw same answered; still = record { unread = refl; unmade = refl; unasked = (refl, refl) } }

pub does_mistyped : (a : AccessView) (k : Option (List ℤ)) (limits : Limits) (sync : Bool) (answer : Answer) → a.frame.limits ≡ limits → answer.roll ≡ None → answer.turn ≡ t.Declined → sent_by answer.reply ≡ replied sync (reply limits (wrong (codes "type"))) → Does (ServesValue a.frame a.by a.seen sync mistyped) k k a a answer
does_mistyped a k limits sync answer same roll turn answered =
    does_nothing a k (ServesValue a.frame a.by a.seen sync mistyped) answer t.Declined roll turn (tells_declined _) (inl (declined_deed a.frame limits sync answer same roll turn answered))

-- the session was out of memory before it asked for anything
pub does_short : (a : AccessView) (k : Option (List ℤ)) (sync : Bool) (request : Request) (answer : Answer) → answer.roll ≡ None → answer.turn ≡ t.Short → sent_by answer.reply ≡ replied sync (response (wrong (codes "wsfull"))) → Does (ServesValue a.frame a.by a.seen sync request) k k a a answer
does_short a k sync request answer roll turn answered =
    does_nothing a k (ServesValue a.frame a.by a.seen sync request) answer t.Short roll turn (tells_short _) (inr (record { noted = rw (roll, turn) refl; answered = answered; read = omega arith; unticked = refl; unmade = refl }))

-- what asking for a snapshot leaves
asks_after : (a b : AccessView) (l : Asks a b) → b ≡ advanced a l.others [] 1 0
asks_after a b l = l.after ∙ ap (λ m. record a { seen = a.seen ++ l.others; mine = m; snapshots = next_count a.snapshots }) (sym (append-nil a.mine))

never_both : false ≡ true → ⊥
never_both e = cc

-- a text of which this is the verdict doesn't subscribe, since it has no other verdict
unsubscribed_by : (bytes : List ℕ) (v : verdicts.Verdict) → IsVerdict bytes v → is_subscription v ≡ false → Subscribes bytes → ⊥
unsubscribed_by bytes v is asks s = never_both (sym asks ∙ ap is_subscription (one-verdict bytes v s.0 is s.1) ∙ s.2)

-- an async text that doesn't subscribe
pub does_passed : (a : AccessView) (k : Option (List ℤ)) (bytes : List ℕ) (v : verdicts.Verdict) (answer : Answer) → IsVerdict bytes v → is_subscription v ≡ false → answer.roll ≡ None → answer.turn ≡ t.Passed → sent_by answer.reply ≡ []
    → Does (ServesValue a.frame a.by a.seen false (text bytes)) k k a a answer
does_passed a k bytes v answer is asks roll turn answered =
    does_nothing a k (ServesValue a.frame a.by a.seen false (text bytes)) answer t.Passed roll turn (tells_passed _)
    (inl (unsubscribed_by bytes v is asks, record { noted = rw (roll, turn) refl; unanswered = answered; still = record { unread = refl; unmade = refl; unasked = (refl, refl) } }))

-- a text was answered over a snapshot
pub does_answered : (a b : AccessView) (k : Option (List ℤ)) (limits : Limits) (bytes : List ℕ) (v : verdicts.Verdict) (answer : Answer)
    → a.frame.limits ≡ limits → Asks a b → IsVerdict bytes v → is_subscription v ≡ false
    → answer.roll ≡ None → answer.turn ≡ t.Answered (length b.seen) → sent_by answer.reply ≡ reply limits (verdict_answer a.frame.first a.frame.schema b.seen v)
    → Does (ServesValue a.frame a.by b.seen true (text bytes)) k k a b answer
does_answered a b k limits bytes v answer same l is asks roll turn answered =
    let turns : turns_by answer.roll answer.turn ≡ t.Answered (length b.seen) ∷ [] = rw (roll, turn) refl in
    let seen : b.seen ≡ a.seen ++ l.others = ap (λ (w : AccessView). w.seen) l.after in
    let size : length b.seen ≡ length (a.seen ++ l.others) = ap length seen in
    record {
      readings = [];
      made = [];
      asked = 1;
      ticked = 0;
      clock = sym (told-nil k);
      access = advances_idle a b l.others (turns_by answer.roll answer.turn) 1 0 l.saw (asks_after a b l) (rw turns (record { each = (sym size, tt); last = size }));
      done = inl (record {
        count = length b.seen;
        front = b.seen;
        is_front = record { count = refl; more = []; whole = sym (append-nil b.seen) };
        value = verdict_answer a.frame.first a.frame.schema b.seen v;
        known = (v, is, refl);
        unsubscribed = unsubscribed_by bytes v is asks;
        noted = turns;
        answered = rw same answered;
        unread = refl;
        unmade = refl;
        asked = (refl, refl);
      });
    }

pub does_short_text : (a b : AccessView) (k : Option (List ℤ)) (request : Request) (answer : Answer) → Asks a b → answer.roll ≡ None → answer.turn ≡ t.Short → sent_by answer.reply ≡ response (wrong (codes "wsfull")) → Does (ServesValue a.frame a.by b.seen true request) k k a b answer
does_short_text a b k request answer l roll turn answered =
    let turns : turns_by answer.roll answer.turn ≡ t.Short ∷ [] = rw (roll, turn) refl in
    record {
      readings = [];
      made = [];
      asked = 1;
      ticked = 0;
      clock = sym (told-nil k);
      access = advances_idle a b l.others (turns_by answer.roll answer.turn) 1 0 l.saw (asks_after a b l) (rw turns (tells_short (length (a.seen ++ l.others))));
      done = inr (record { noted = turns; answered = answered; read = omega arith; unticked = refl; unmade = refl });
    }

-- a question was answered over the snapshot that was asked for
pub does_replied : (a b : AccessView) (k : Option (List ℤ)) (limits : Limits) (bytes : List ℕ) (v : verdicts.Verdict) (count : ℕ) (schema : List Shape) (snapshot : SnapshotView) (made : Reply)
    → a.frame.limits ≡ limits → Asks a b → snapshot ≡ record { frame = a.frame; entries = b.seen } → schema ≡ b.frame.schema → count ≡ length snapshot.entries
    → reply_bytes made ≡ reply limits (verdict_answer snapshot.frame.first schema snapshot.entries v) → IsVerdict bytes v → is_subscription v ≡ false
    → Does (ServesValue a.frame a.by b.seen true (text bytes)) k k a b (record { roll = None; turn = t.Answered count; reply = Some made })
does_replied a b k limits bytes v count schema snapshot made same l is schema_is count_is answered verdict_is asks =
    let own : b.frame ≡ a.frame = ap (λ (w : AccessView). w.frame) l.after in
    let here : schema ≡ a.frame.schema = schema_is ∙ ap (λ (f : Frame). f.schema) own in
    let size : count ≡ length b.seen = count_is ∙ ap (λ (w : SnapshotView). length w.entries) is in
    let sent = answered ∙ ap (λ (s : List Shape). reply limits (verdict_answer snapshot.frame.first s snapshot.entries v)) here ∙ ap (λ (w : SnapshotView). reply limits (verdict_answer w.frame.first a.frame.schema w.entries v)) is in
    does_answered a b k limits bytes v (record { roll = None; turn = t.Answered count; reply = Some made }) same l verdict_is asks refl (ap t.Answered size) sent
