-- The responses that take no memory.
use Rattle.std.proofs.Common.{◌≡◌, ◌<◌, ℕ, List, [], ◌∷◌, length, refl, ap, sym, ◌∙◌, codes, true, ltb, arith}
use Rattle.std.proofs.lemmas.Bool.{lt-ltb}
use Rattle.ipc_codec.specs.Lengths.{saturated}
use Rattle.ipc_codec.specs.Written.{IsPlain, written}
use Rattle.q_values.specs.Bytes.{HasNoNul}
use Rattle.q_values.specs.Tree.{Tree, identity, wrong, tree, value_step, pair_step, values_step}
use Rattle.q_values.specs.declared.limits.Limits.{Limits}
use Rattle.q_values.specs.declared.value.Value.{fold-roll-Value}
use Rattle.q_values.specs.declared.value.Value.TheOpen.{Value-F}
use Rattle.q_values.specs.declared.value.Value.TheVariants as v
use Rattle.q_values.specs.declared.value.Value.TheVariants.{rolls-Wrong}
use Rattle.session_replies.specs.Replies.{fixed_reply}
use Rattle.session_replies.specs.Reply.{response, reply}

pub response-done : response identity ≡ 1 ∷ 2 ∷ 0 ∷ 0 ∷ 10 ∷ 0 ∷ 0 ∷ 0 ∷ 101 ∷ 0 ∷ []
unfolding written
response-done = refl

pub response-nyi : response (wrong (codes "nyi")) ≡ 1 ∷ 2 ∷ 0 ∷ 0 ∷ 13 ∷ 0 ∷ 0 ∷ 0 ∷ 128 ∷ 110 ∷ 121 ∷ 105 ∷ 0 ∷ []
unfolding written
response-nyi = refl

pub response-limit : response (wrong (codes "limit")) ≡ 1 ∷ 2 ∷ 0 ∷ 0 ∷ 15 ∷ 0 ∷ 0 ∷ 0 ∷ 128 ∷ 108 ∷ 105 ∷ 109 ∷ 105 ∷ 116 ∷ 0 ∷ []
unfolding written
response-limit = refl

pub response-wsfull : response (wrong (codes "wsfull")) ≡ 1 ∷ 2 ∷ 0 ∷ 0 ∷ 16 ∷ 0 ∷ 0 ∷ 0 ∷ 128 ∷ 119 ∷ 115 ∷ 102 ∷ 117 ∷ 108 ∷ 108 ∷ 0 ∷ []
unfolding written
response-wsfull = refl

pub done_is : (limits : Limits) (made : List ℕ) → made ≡ fixed_reply limits (1 ∷ 2 ∷ 0 ∷ 0 ∷ 10 ∷ 0 ∷ 0 ∷ 0 ∷ 101 ∷ 0 ∷ []) → made ≡ reply limits identity
unfolding written
done_is limits made e = e

pub nyi_is : (limits : Limits) (made : List ℕ) → made ≡ fixed_reply limits (1 ∷ 2 ∷ 0 ∷ 0 ∷ 13 ∷ 0 ∷ 0 ∷ 0 ∷ 128 ∷ 110 ∷ 121 ∷ 105 ∷ 0 ∷ []) → made ≡ reply limits (wrong (codes "nyi"))
unfolding written
nyi_is limits made e = e

pub mistyped_is : (limits : Limits) (made : List ℕ) → made ≡ fixed_reply limits (1 ∷ 2 ∷ 0 ∷ 0 ∷ 14 ∷ 0 ∷ 0 ∷ 0 ∷ 128 ∷ 116 ∷ 121 ∷ 112 ∷ 101 ∷ 0 ∷ []) → made ≡ reply limits (wrong (codes "type"))
unfolding written
mistyped_is limits made e = e

pub disk_is : (limits : Limits) (made : List ℕ) → made ≡ fixed_reply limits (1 ∷ 2 ∷ 0 ∷ 0 ∷ 14 ∷ 0 ∷ 0 ∷ 0 ∷ 128 ∷ 100 ∷ 105 ∷ 115 ∷ 107 ∷ 0 ∷ []) → made ≡ reply limits (wrong (codes "disk"))
unfolding written
disk_is limits made e = e

pub length_is : (limits : Limits) (made : List ℕ) → made ≡ fixed_reply limits (1 ∷ 2 ∷ 0 ∷ 0 ∷ 16 ∷ 0 ∷ 0 ∷ 0 ∷ 128 ∷ 108 ∷ 101 ∷ 110 ∷ 103 ∷ 116 ∷ 104 ∷ 0 ∷ [])
    → made ≡ reply limits (wrong (codes "length"))
unfolding written
length_is limits made e = e

pub limit_is : (limits : Limits) (made : List ℕ) → made ≡ fixed_reply limits (1 ∷ 2 ∷ 0 ∷ 0 ∷ 15 ∷ 0 ∷ 0 ∷ 0 ∷ 128 ∷ 108 ∷ 105 ∷ 109 ∷ 105 ∷ 116 ∷ 0 ∷ [])
    → made ≡ reply limits (wrong (codes "limit"))
unfolding written
limit_is limits made e = e

pub more_than_one_day_is : (limits : Limits) (made : List ℕ) → made ≡ fixed_reply limits (1 ∷ 2 ∷ 0 ∷ 0 ∷ 28 ∷ 0 ∷ 0 ∷ 0 ∷ 128 ∷ 109 ∷ 111 ∷ 114 ∷ 101 ∷ 32 ∷ 116 ∷ 104 ∷ 97 ∷ 110 ∷ 32 ∷ 111 ∷ 110 ∷ 101 ∷ 32 ∷ 100 ∷ 97 ∷ 121 ∷ 63 ∷ 0 ∷ [])
    → made ≡ reply limits (wrong (codes "more than one day?"))
unfolding written
more_than_one_day_is limits made e = e

-- a response that is longer than the limit
pub too_long : (limits : Limits) (t : Tree) (n : ℕ) → n ≡ saturated (length (response t)) → limits.reply < n → 1 ∷ 2 ∷ 0 ∷ 0 ∷ 15 ∷ 0 ∷ 0 ∷ 0 ∷ 128 ∷ 108 ∷ 105 ∷ 109 ∷ 105 ∷ 116 ∷ 0 ∷ [] ≡ reply limits t
too_long limits t n e long =
    let longer : ltb limits.reply (length (response t)) ≡ true = lt-ltb _ _ (omega arith) in
    rw (longer, response-limit) refl

-- an error whose text has no zero byte can be written
pub wrong_plain : (text : List ℕ) → HasNoNul text → IsPlain (wrong text)
wrong_plain text clean = record { nested = omega arith; fits = clean }

-- the tree of an error
pub tree-wrong : (x : List ℕ) → tree (v.Wrong x) ≡ wrong x
tree-wrong x = ap tree (sym (rolls-Wrong x)) ∙ fold-roll-Value Tree (Tree × Tree) (List Tree) value_step pair_step values_step (Value-F.Wrong x)
