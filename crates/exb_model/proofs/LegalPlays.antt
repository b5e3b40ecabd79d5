-- What segments play, rule by rule and together.
use Rattle.std.specs.Prelude.{List, [], ◌∷◌, All}
use Rattle.std.proofs.lemmas.List.Elements.{All-nil, All-cons, All-head, All-tail}
use Rattle.exb_model.specs.declared.event.Event.{Event}
use Rattle.exb_model.specs.Lists.{Pairwise}
use Rattle.exb_model.specs.Input.{Segment}
use Rattle.exb_model.specs.LegalHistory.{IsOfSegment, PlaysArrivals, PlaysCommands, PlaysTick, Plays}

pub all_of_segments : (ss : List Segment) (plays : List (List Event)) → Pairwise Plays ss plays → All (All IsOfSegment) plays
all_of_segments [] [] played = All-nil (All IsOfSegment)
all_of_segments [] (es ∷ rest) played = absurd played
all_of_segments (s ∷ ss) [] played = absurd played
all_of_segments (s ∷ ss) (es ∷ rest) played = All-cons (All IsOfSegment) es rest played.0.of_segment (all_of_segments ss rest played.1)

pub all_commands : (ss : List Segment) (plays : List (List Event)) → Pairwise Plays ss plays → Pairwise PlaysCommands ss plays
all_commands [] [] played = tt
all_commands [] (es ∷ rest) played = played
all_commands (s ∷ ss) [] played = played
all_commands (s ∷ ss) (es ∷ rest) played = (played.0.commands, all_commands ss rest played.1)

pub all_arrivals : (ss : List Segment) (plays : List (List Event)) → Pairwise Plays ss plays → Pairwise PlaysArrivals ss plays
all_arrivals [] [] played = tt
all_arrivals [] (es ∷ rest) played = played
all_arrivals (s ∷ ss) [] played = played
all_arrivals (s ∷ ss) (es ∷ rest) played = (played.0.arrivals, all_arrivals ss rest played.1)

pub all_ticks : (ss : List Segment) (plays : List (List Event)) → Pairwise Plays ss plays → Pairwise PlaysTick ss plays
all_ticks [] [] played = tt
all_ticks [] (es ∷ rest) played = played
all_ticks (s ∷ ss) [] played = played
all_ticks (s ∷ ss) (es ∷ rest) played = (played.0.tick, all_ticks ss rest played.1)

pub all_played : (ss : List Segment) (plays : List (List Event)) → All (All IsOfSegment) plays → Pairwise PlaysCommands ss plays →
    Pairwise PlaysArrivals ss plays → Pairwise PlaysTick ss plays → Pairwise Plays ss plays
all_played [] [] of_segments commands arrivals ticks = tt
all_played [] (es ∷ rest) of_segments commands arrivals ticks = commands
all_played (s ∷ ss) [] of_segments commands arrivals ticks = commands
all_played (s ∷ ss) (es ∷ rest) of_segments commands arrivals ticks = (
  record {
    of_segment = All-head (All IsOfSegment) es rest of_segments;
    commands = commands.0;
    arrivals = arrivals.0;
    tick = ticks.0;
  },
  all_played ss rest (All-tail (All IsOfSegment) es rest of_segments) commands.1 arrivals.1 ticks.1,
)
