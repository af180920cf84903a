-- What a device reports of what passed through it.
use Rattle.std.specs.Prelude.{◌≡◌, Option, Some, None, List, [], ◌++◌}

-- what is reported after more has passed: nothing, where nothing was reported before
abbrev pub told : {X : Type 0} → Option (List X) → List X → Option (List X)
told None more = None
told (Some before) more = Some (before ++ more)

-- what is reported now is what was reported before, and then this; a device may stop reporting
abbrev pub Tells : {X : Type 0} → Option (List X) → Option (List X) → List X → Type 0
Tells {X} before now more = (all : List X) → now ≡ Some all → told before more ≡ Some all

-- where the device reports, nothing has passed yet
abbrev pub HasToldNothing : {X : Type 0} → Option (List X) → Type 0
HasToldNothing {X} before = (all : List X) → before ≡ Some all → all ≡ []
