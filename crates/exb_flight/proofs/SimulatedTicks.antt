-- The kinds of steps that change little: seconds that pass, a mark, a control word that is lost.
use Rattle.std.proofs.Common.{ℕ, List, [], ◌∷◌, ◌++◌, sym, ap, subst}
use Rattle.std.proofs.lemmas.List.{append-nil}
use Rattle.exb_model.specs.declared.event.Event.TheVariants as event
use Rattle.exb_model.specs.Tree.{Shape}
use Rattle.exb_model.specs.History.{Basis, History}
use Rattle.exb_learn.specs.Calls.{Tick as Ticks, after_call}
use Rattle.exb_learn.specs.Histories.{table_after}
use Rattle.exb_link.specs.LinkFrames.{without_control}
use Rattle.exb_world_spec.specs.Worlds.{World, Way, Up, Down, Left}
use Rattle.exb_world_spec.specs.Steps.{words_on, with_words}
use Rattle.exb_world_spec.proofs.LinkFrames.{at_same}
use Rattle.exb_flight.specs.Flight.{Flight}
use Rattle.exb_flight.specs.Flight as flights
use Rattle.exb_flight.specs.Tokens.{key_on, items_on, Thins}
use Rattle.exb_flight.specs.SimulationRelation.{Shows}
use Rattle.exb_flight.specs.Simulation.{TicksFly, MarksFly, LossesFly}
use Rattle.exb_flight.proofs.Items.{thins_through, items_lost}

-- nothing more has left
pub none_left : (t : Shape) (i : Basis) (w : World) (h : History) (gone : List Left) (f : Flight) → Shows t i w h gone f → Shows t i w h (gone ++ []) f
none_left t i w h gone f s = subst (λ (xs : List Left). Shows t i w h xs f) (sym (append-nil gone)) s

pub ticks_fly : TicksFly
unfolding table_after
ticks_fly seconds t l i setting w h gone f sound facts s may =
    record {
      steps = flights.Note (event.Tick seconds) ∷ [];
      runs = (tt, tt);
      shows = none_left t i _ _ gone _ (record {
        system = s.system;
        down = s.down;
        up = s.up;
        history = ap (λ (g : History). event.Tick seconds ∷ g) s.history;
        left = s.left;
        learned = ap (after_call (Ticks seconds)) s.learned;
      });
    }

pub marks_fly : MarksFly
unfolding table_after
marks_fly t l i setting w h gone f sound facts s may =
    record {
      steps = flights.Note event.Settled ∷ [];
      runs = (tt, tt);
      shows = none_left t i _ _ gone _ (record {
        system = s.system;
        down = s.down;
        up = s.up;
        history = ap (λ (g : History). event.Settled ∷ g) s.history;
        left = s.left;
        learned = s.learned;
      });
    }

-- the words of a direction of a link are fewer by control words
pub fewer_shows : (t : Shape) (i : Basis) (w : World) (h : History) (gone : List Left) (f : Flight) (n : ℕ) (way : Way) (k : ℕ) → Shows t i w h gone f →
    Shows t i (with_words n way (without_control (words_on n way w) k) w) h gone f
fewer_shows t i w h gone f n Up k s =
    record {
      system = s.system;
      down = s.down;
      up = at_same (λ m ws. Thins (items_on t w.control.held Up m ws) (f.up m)) n (without_control (w.up n) k) w.up
          (thins_through _ _ (f.up n) (items_lost (key_on t w.control.held Up n) (w.up n) k) (s.up n)) s.up;
      history = s.history;
      left = s.left;
      learned = s.learned;
    }
fewer_shows t i w h gone f n Down k s =
    record {
      system = s.system;
      down = at_same (λ m ws. Thins (items_on t w.control.held Down m ws) (f.down m)) n (without_control (w.down n) k) w.down
          (thins_through _ _ (f.down n) (items_lost (key_on t w.control.held Down n) (w.down n) k) (s.down n)) s.down;
      up = s.up;
      history = s.history;
      left = s.left;
      learned = s.learned;
    }

pub losses_fly : LossesFly
losses_fly n way k t l i setting w h gone f sound facts s may =
    record { steps = []; runs = tt; shows = none_left t i _ _ gone _ (fewer_shows t i w h gone f n way k s) }
