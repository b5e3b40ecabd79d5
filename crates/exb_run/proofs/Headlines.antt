-- The headlines, from what is done.
use Rattle.std.proofs.Common.{◌≡◌, ◌++◌, ◌∙◌, ℕ, Bool, List, Option, Some, ap, subst}
use Rattle.exb_shelf.specs.Files.{Files}
use Rattle.exb_cli.specs.declared.invocations.Options.{Options}
use Rattle.exb_cli.specs.CommandLines.{Ask, Run, Net}
use Rattle.exb_counters.specs.Counters.{count_text}
use Rattle.exb_model.specs.Input.{tree_of}
use Rattle.exb_model.specs.Tree.{is_external}
use Rattle.exb_net_spec.specs.NetHistory.{basis_in}
use Rattle.exb_net_file.specs.declared.members.NetMember.{NetMember}
use Rattle.exb_net.specs.Answers.{NetPlayed}
use Rattle.exb_net.specs.Headline.{NetHeadline}
use Rattle.exb_net.specs.Nets.{input_in, net_of}
use Rattle.exb_run.specs.Answers.{IsDone, Played, mode_for}
use Rattle.exb_run.specs.Headline.{Headline}

played_tells : (name : List ℕ) (options : Options) (old new : Files) (line before after : List ℕ) → Played name options old new line → after ≡ before ++ line → Headline name options old new before after
played_tells name options old new line before after p prints =
    record {
      bytes = p.ready.holds.bytes;
      there = p.ready.holds.there;
      topology = p.topology;
      read = p.ready.holds.read;
      readable = p.ready.good;
      history = p.played.history;
      legal = p.played.legal;
      eager = λ none. p.played.eager (ap mode_for none);
      captures = p.played.captures;
      journal = p.played.journal;
      trace = λ asked. let t = p.played.trace asked in (t.lines, t.is, t.legal);
      counters = p.played.counters;
      files = p.played.files;
      others = p.played.others;
      prints = prints ∙ ap (λ (xs : List ℕ). before ++ xs) p.played.says;
    }

pub headline_by : (a : Option Ask) (name : List ℕ) (options : Options) (old new : Files) (line before after : List ℕ) → a ≡ Some (Run name options) → IsDone a old new line → after ≡ before ++ line
    → Headline name options old new before after
headline_by a name options old new line before after is done prints =
    played_tells name options old new line before after (subst (λ (b : Option Ask). IsDone b old new line) is done) prints

-- ---- of a net
net_played_tells : (name : List ℕ) (counters : Bool) (old new : Files) (line before after : List ℕ) → NetPlayed name counters old new line → after ≡ before ++ line → NetHeadline name counters old new before after
net_played_tells name counters old new line before after p prints =
    record {
      bytes = p.ready.holds.says.bytes;
      there = p.ready.holds.says.there;
      file = p.ready.holds.net;
      read = p.ready.holds.says.read;
      bridges = p.members;
      topologies = p.ready.holds.members;
      wires = p.wires;
      wired = p.ready.holds.wired;
      readable = p.ready.good;
      histories = p.played.histories;
      eager = p.played.eager;
      holds = p.holds;
      captures = λ b m is q external. (p.played.written b m is).captures q (ap (λ (o : Option NetMember). is_external (tree_of (input_in old o)) q) is ∙ external);
      journals = λ b m is. (p.played.written b m is).journal;
      counts = λ counted b m is.
          (p.played.written b m is).counts counted
          ∙ ap (λ (o : Option NetMember). Some (count_text (tree_of (input_in old o)) (basis_in (net_of p.members p.wires old) b) (p.played.histories b))) is;
      others = p.played.others;
      prints = prints ∙ ap (λ (xs : List ℕ). before ++ xs) p.played.says;
    }

pub net_headline_by : (a : Option Ask) (name : List ℕ) (counters : Bool) (old new : Files) (line before after : List ℕ) → a ≡ Some (Net name counters) → IsDone a old new line → after ≡ before ++ line
    → NetHeadline name counters old new before after
net_headline_by a name counters old new line before after is done prints =
    net_played_tells name counters old new line before after (subst (λ (b : Option Ask). IsDone b old new line) is done) prints
