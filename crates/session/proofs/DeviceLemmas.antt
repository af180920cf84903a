-- Which devices a session has.
use Rattle.std.proofs.Common.{refl, ◌∙◌}
use Rattle.session.specs.Devices.{HasSameDevices, HearsNothing, OnlyAsks}
use Rattle.session.specs.declared.session.Session.{Session}

pub devices-none : {A L C G N : Type 0} (s : Session A L C G N) → HasSameDevices s s
devices-none s = record { access = refl; link = refl; clock = refl; recorder = refl; limits = refl }

pub devices-devices : {A L C G N : Type 0} (r s t : Session A L C G N) → HasSameDevices r s → HasSameDevices s t → HasSameDevices r t
devices-devices r s t p q = record {
  access = q.access ∙ p.access;
  link = q.link ∙ p.link;
  clock = q.clock ∙ p.clock;
  recorder = q.recorder ∙ p.recorder;
  limits = q.limits ∙ p.limits;
}

pub hears-none : {A L C G N : Type 0} (s : Session A L C G N) → HearsNothing s s
hears-none s = record { devices = devices-none s; reader = refl; idles_left = refl }

pub hears-hears : {A L C G N : Type 0} (r s t : Session A L C G N) → HearsNothing r s → HearsNothing s t → HearsNothing r t
hears-hears r s t p q = record { devices = devices-devices r s t p.devices q.devices; reader = q.reader ∙ p.reader; idles_left = q.idles_left ∙ p.idles_left }

pub asks-none : {A L C G N : Type 0} (s : Session A L C G N) → OnlyAsks s s
asks-none s = record { unheard = record { unheard = hears-none s; subscriber = refl }; link = refl; recorder = refl }
