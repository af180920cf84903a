-- What the code reads off a message, compared with the definition of a request.
use Rattle.std.specs.Prelude.{◌≡◌, ℕ, List, [], ◌∷◌, Option, Some, None}
use Rattle.std.specs.Borrow.{Bor}
use Rattle.q_values.specs.Tree.{Tree, tree, trees}
use Rattle.q_values.specs.declared.atom.Atom.{Atom}
use Rattle.q_values.specs.declared.kind.Kind.{Kind}
use Rattle.q_values.specs.declared.value.Value.{Value}
use Rattle.session_requests.specs.Request.{Request, update, subscribe, mistyped, text, other, characters_of, parts_request}
use Rattle.session_requests.specs.declared.request.Asked.{Asked}
use Rattle.session_requests.specs.declared.request.Asked.TheVariants as c

-- the code has read this request
abbrev pub Asks : Request → Asked → Type 0
Asks request (c.Update r) = request ≡ update r.table (trees r.items)
Asks request (c.Subscription r) = request ≡ subscribe r
Asks request c.Mistyped = request ≡ mistyped
Asks request (c.Text bytes) = request ≡ text bytes
Asks request c.Other = request ≡ other

-- the bytes of a vector of characters, or none where it is of another kind
abbrev pub AreCharacters : Kind → List Atom → Option (Bor (List ℕ)) → Type 0
AreCharacters kind atoms (Some bytes) = characters_of kind atoms ≡ Some bytes.now
AreCharacters kind atoms None = characters_of kind atoms ≡ None

-- the three items of a list; a list with another number of items asks for nothing
abbrev pub AreParts : List Tree → Option (Value × Value × Value) → Type 0
AreParts items (Some parts) = items ≡ tree parts.0 ∷ tree parts.1 ∷ tree parts.2 ∷ []
AreParts items None = parts_request items ≡ other
