-- How the words are read, one after another.
use Rattle.std.specs.Prelude.{ℕ, true, false, ◌||◌, if◌then◌else◌, List, [], ◌∷◌, Option, Some, None, is_some, option_map, option_and_then}
use Rattle.exb_cli.specs.CommandLines.{Ask, Run, Check, Make, Audit, Net, Item, Name, Trace, Counters, Seed, items_of}
use Rattle.exb_cli.specs.declared.invocations.Options.{Options}
use Rattle.exb_cli.specs.declared.invocations.Invocation.{Invocation}
use Rattle.exb_cli.specs.declared.invocations.Invocation.TheVariants as asked
use Rattle.exb_cli.specs.declared.parser.ParserState.{ParserState}

-- what is asked for, with the bytes of the name
abbrev pub ask_of : Invocation → Ask
ask_of (asked.Run topology options) = Run topology.now options
ask_of (asked.Check topology) = Check topology.now
ask_of (asked.Make number) = Make number
ask_of (asked.Audit topology) = Audit topology.now
ask_of (asked.Net file counters) = Net file.now counters

-- ---- what the words read so far say: one name, and the options
pub record Gathered : Type 0 where
  pub name : Option (List ℕ)
  pub options : Options

abbrev pub nothing_said : Gathered
nothing_said = record { name = None; options = record { trace = false; counters = false; seed = None } }

-- each is said once at most
abbrev pub with_one : Item → Gathered → Option Gathered
with_one (Name w) g = if is_some g.name then None else Some (record g { name = Some w })
with_one Trace g = if g.options.trace then None else Some
    (record { name = g.name; options = record g.options { trace = true } })
with_one Counters g = if g.options.counters then None else Some
    (record { name = g.name; options = record g.options { counters = true } })
with_one (Seed n) g = if is_some g.options.seed then None else Some
    (record { name = g.name; options = record g.options { seed = Some n } })

unfoldable pub with_all : List Item → Gathered → Option Gathered
with_all [] g = Some g
with_all (i ∷ is) g = option_and_then (with_all is) (with_one i g)

-- what is gathered once these words are read too
unfoldable pub gathered : List (List ℕ) → Gathered → Option Gathered
gathered ws g = option_and_then (λ is. with_all is g) (items_of ws)

abbrev pub gathered_of : ParserState → Gathered
gathered_of s = record { name = option_map (λ w. w.now) s.name; options = s.options }

-- ---- what is asked for by what was gathered
abbrev pub run_from : Gathered → Option Ask
run_from g = option_map (λ w. Run w g.options) g.name

abbrev pub name_from : Gathered → Option (List ℕ)
name_from g = if (g.options.trace || g.options.counters) || is_some g.options.seed then None else g.name

abbrev pub net_from : Gathered → Option Ask
net_from g = if g.options.trace || is_some g.options.seed then None else option_map (λ w. Net w g.options.counters)
    g.name
