use Rattle.std.proofs.Common.{◌≡◌, ◌++◌, map}
use Rattle.markdown_base.specs.Event.{event_view}
use Rattle.markdown_contents.specs.HtmlList.{list_ends}
use Rattle.markdown_contents.proofs.html_list.push_ends.Given as goal

-- the ends so far
abbrev pub invariant-loop : goal.invariant-loop
invariant-loop l = map event_view l.events.items ≡ map event_view l.fn.events.items ++ list_ends l.counter
