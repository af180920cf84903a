use Rattle.std.proofs.Common.{rules, ◌≡◌, Some, None}
use Rattle.std.specs.Ordering.{nat_cmp}
use Rattle.std.specs.BTreeMap.{get}
use Rattle.outside_mem.proofs.PlaceLemmas.{first_of, absent_of}
use Rattle.outside_mem.proofs.files.place_of.Goals as goal

pub returns-in-Some-clause-within : goal.returns-in-Some-clause-within
returns-in-Some-clause-within c =
    let is : get nat_cmp c.args.places.now c.args.number ≡ Some c.in-Some.place.now = search rules in
    (first_of c.args.places.now c.args.entries.now c.args.number _ c.requires is).0

pub returns-in-Some-clause-found : goal.returns-in-Some-clause-found
returns-in-Some-clause-found c =
    let is : get nat_cmp c.args.places.now c.args.number ≡ Some c.in-Some.place.now = search rules in
    (first_of c.args.places.now c.args.entries.now c.args.number _ c.requires is).1

pub returns-in-None-clause-none : goal.returns-in-None-clause-none
returns-in-None-clause-none c =
    let is : get nat_cmp c.args.places.now c.args.number ≡ None = search rules in
    absent_of c.args.places.now c.args.entries.now c.args.number c.requires is
