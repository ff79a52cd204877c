-- What keeps a workspace ready to go back.
use Rattle.std.proofs.Common.{◌≡◌, ◌≤◌, List, None, sym, subst, arith}
use Rattle.batch_core.specs.State.{Contents, IsSound}
use Rattle.batch_core.specs.Command.{cause_of}
use Rattle.batch_core.specs.Back.{Capacities, Grows, IsWithin, CanGoBack}
use Rattle.batch_core.specs.Workspace.{Workspace, IsReady, IsDone}
use Rattle.batch_core.specs.declared.command.Command.{Command}
use Rattle.batch_core.specs.declared.record.Record.{Record}
use Rattle.batch_core.proofs.BackFacts.{can_grow, can_after}

module _ {X : Type 0} where
  going_back_kept : (w : Capacities) (rs all : List (Record X)) (c after : Contents X) → all ≡ rs → after ≡ c → CanGoBack w rs c
      → CanGoBack w all after
  going_back_kept w rs all c after records contents can =
      subst (λ l. CanGoBack w l after) (sym records) (subst (CanGoBack w rs) (sym contents) can)

  -- if contents and records stay, and no capacity is below the room
  pub ready_reserved : (old new : Workspace X) → new.contents ≡ old.contents → new.records ≡ old.records → new.room ≤ new.capacities.list
      → new.room ≤ new.capacities.set → new.room ≤ new.capacities.table → new.room ≤ new.capacities.records
      → Grows old.capacities new.capacities → IsReady old → IsReady new
  ready_reserved old new contents records list set table record_room grows ready = record {
    back = going_back_kept new.capacities old.records new.records old.contents new.contents records contents
        (can_grow old.capacities new.capacities grows old.records old.contents ready.back);
    list = list;
    set = set;
    table = table;
    records = record_room;
  }

  -- if contents, records and room stay
  pub ready_kept : (old new : Workspace X) → new.contents ≡ old.contents → new.records ≡ old.records → new.room ≡ old.room
      → Grows old.capacities new.capacities → IsReady old → IsReady new
  ready_kept old new contents records room grows ready =
      ready_reserved old new contents records (omega (arith, ready.list, grows.list, room)) (omega (arith, ready.set, grows.set, room))
      (omega (arith, ready.table, grows.table, room)) (omega (arith, ready.records, grows.records, room)) grows ready

  -- if a command took effect
  pub ready_done : (old new : Workspace X) (command : Command X) → IsDone old command new → cause_of old.contents command ≡ None
      → IsWithin old.capacities old.contents → IsSound old.contents → new.room ≡ old.room → Grows old.capacities new.capacities
      → IsReady old → IsReady new
  ready_done old new command done none room sound same grows ready = record {
    back = subst (λ l. CanGoBack new.capacities l new.contents) (sym done.records)
        (subst (CanGoBack new.capacities _) (sym done.effect)
        (can_after old.capacities new.capacities old.contents command old.records grows room sound none ready.back));
    list = omega (arith, ready.list, grows.list, same);
    set = omega (arith, ready.set, grows.set, same);
    table = omega (arith, ready.table, grows.table, same);
    records = omega (arith, ready.records, grows.records, same);
  }
