-- The pass that a session over a lock leaves.
use Rattle.std.proofs.Common.{◌≡◌, ◌∙◌, Option, Some, sym, ap, subst}
use Rattle.std.specs.Prelude.{unwrap_or}
use Rattle.atomic_table.specs.Seated.{TableId}
use Rattle.day_rows.specs.declared.entry.Entry.{Entry}
use Rattle.outside_api.specs.Disk.{DiskView}
use Rattle.plant_core.specs.Access.{AccessView}
use Rattle.plant_lock.specs.Entries.{own}
use Rattle.plant_lock.specs.Told.{Told}
use Rattle.plant_memory.specs.Chronicle.{by_of}
use Rattle.plant_memory.specs.Frame.{Frame}
use Rattle.plant_shared.specs.Shared.{locked, shown_pass}
use Rattle.q_values.specs.declared.limits.Limits.{Limits}
use Rattle.session.specs.Session.{IsSession}
use Rattle.session.specs.declared.end.End.{End}
use Rattle.shared_sessions.specs.Sessions.{Line, Leaves, IsServed, world_at}

same_some : {a b : TableId} → Some a ≡ Some b → a ≡ b
same_some {a} h = ap (λ o. unwrap_or o a) h

module _ (limits : Limits) (frame : Frame) (origin : DiskView) (lock : TableId) (old new : Told Entry) (of_lock : old.lock ≡ lock) (a b : Line) (end : End)
    (access : AccessView) (s : IsSession limits (world_at a (shown_pass frame (locked origin lock) old 0 0)) (world_at b access) end) where
  -- no call changed whose plant the access reaches
  home_kept : access.home ≡ locked origin lock
  home_kept = ap (λ (v : AccessView). v.home) s.access.after

  lock_kept : access.home.lock ≡ Some new.lock → new.lock ≡ old.lock
  lock_kept is = same_some (sym is ∙ ap (λ h. h.lock) home_kept) ∙ sym of_lock

  pub served : access.home.lock ≡ Some new.lock → new.number ≡ access.by → new.seen ≡ access.seen → new.mine ≡ access.mine
      → own by_of new.number new.seen ≡ new.mine → IsServed limits frame (locked origin lock) old new a b end
  served is number seen mine own_is = record {
    access = access;
    session = s;
    leaves = record { lock = lock_kept is; number = number ∙ ap (λ (v : AccessView). v.by) s.access.after; seen = seen; mine = mine; own = own_is };
  }
