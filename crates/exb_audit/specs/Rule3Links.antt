-- A direction of a link: what is kept of it, and the state of the machine that this is.
use Rattle.std.specs.Prelude.{◌≡◌, ℕ, ◌≤◌, ◌&&◌, Bool, if◌then◌else◌, List, length, map, drop, Option, Some, None}
use Rattle.std.specs.BTreeMap.{BTreeMap, get_by}
use Rattle.std.specs.Cmp.Lexicographic.{slice_cmp}
use Rattle.std.specs.Ordering.{nat_cmp}
use Rattle.std.specs.Str.{bytes_eq}
use denote.Ref.{Bor}
use Rattle.exb_model.specs.Traces.{TraceLine}
use Rattle.exb_trace_spec.specs.TraceChecker.{Link, before_first, is_used_up, link_line, new_link, through}
use Rattle.exb_trace_spec.specs.Rule3Links.{Place, place_of, upstream_of}
use Rattle.exb_audit.specs.declared.rule3_links.LinkDirection.{LinkDirection}
use Rattle.exb_audit.specs.declared.rule3_links.DeviceSide.{DeviceSide as CodePlace}

-- what is noted of a control word
abbrev pub before_in : BTreeMap (Bor (List ℕ)) ℕ → List ℕ → Option ℕ
before_in m f = get_by (λ k. slice_cmp nat_cmp f k.now) m

abbrev pub words_of : List (Bor (List ℕ)) → List (List ℕ)
words_of xs = map (λ x. x.now) xs

-- what was noted first stays
abbrev pub some_or : Option ℕ → Option ℕ → Option ℕ
some_or None o = o
some_or (Some n) o = Some n

abbrev pub noted : List ℕ → ℕ → List ℕ → Option ℕ
noted f n g = if bytes_eq f g then Some n else None

-- of each control word the data words before its first sending, the data words that went out, and how many of them came
-- in
pub record IsLink (known : List ℕ → Option ℕ) (sent : List (List ℕ)) (came : ℕ) (x : Link) : Type 0 where
  pub known_first : (f : List ℕ) → known f ≡ before_first f x.controls
  pub gone : x.gone ≡ length sent
  pub came_in : x.came ≡ came
  pub low : came ≤ length sent
  pub waiting : x.waiting ≡ Some (drop came sent)

abbrev pub IsDirection : LinkDirection → Link → Type 0
IsDirection d x = IsLink (before_in d.before) (words_of d.sent.items) d.came x

-- ---- places
abbrev pub place_in : CodePlace → Place
place_in p = record { who = p.who; at = p.at }

-- ---- both directions of the link of an extender
abbrev pub used_up : Place → Place → List TraceLine → Bool
used_up from to lines = is_used_up (through (link_line from to) new_link lines).waiting

-- where extender n hangs on port p
abbrev pub both_used_up : ℕ → ℕ → List TraceLine → Bool
both_used_up n p lines = used_up (upstream_of n) (place_of p) lines && used_up (place_of p) (upstream_of n) lines
