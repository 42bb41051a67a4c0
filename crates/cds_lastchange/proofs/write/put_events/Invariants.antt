use Rattle.std.proofs.Common.{◌≡◌, ◌++◌, drop, take, string_bytes}
use Rattle.std.specs.List.{flat_map, AllByRecursion}
use Rattle.cds_lastchange.specs.Spelled.{event_text, IsNumbered}
use Rattle.cds_lastchange.proofs.write.put_events.Given as goal

-- what is written so far, and the events that are left
abbrev pub invariant-loop-event : goal.invariant-loop-event
invariant-loop-event l = record {
  puts : string_bytes l.out ++ flat_map event_text (drop l.event-index l.events) ≡ string_bytes l.initial.out ++ flat_map event_text l.events;
  numbered : AllByRecursion IsNumbered (take l.event-index l.events);
}
