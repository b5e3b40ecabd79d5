-- The numbers of the commands that a legal history tells: those of its segments, in order.
use Rattle.std.proofs.Common.{◌≡◌, ℕ, zero, suc, ◌+◌, ◌≤◌, ◌++◌, List, [], ◌∷◌, length, reverse, Option, Some, None, refl, ap, sym, ◌∙◌, arith, append_assoc, length-append}
use Rattle.std.specs.Prelude.{filter_map, flat_map, slice_get}
use Rattle.std.specs.List.{range_with_len}
use Rattle.std.proofs.lemmas.Grind.{reverse_onto}
use Rattle.std.proofs.lemmas.List.{append-nil}
use Rattle.std.proofs.lemmas.List.Elements.{filter_map-append}
use Rattle.std.proofs.lemmas.Option.{slice_get_past}
use Rattle.exb_model.specs.declared.command.Command.{Command}
use Rattle.exb_model.specs.declared.event.Cause.{Cause}
use Rattle.exb_model.specs.declared.event.Event.{Event}
use Rattle.exb_model.specs.declared.event.Event.TheVariants as event
use Rattle.exb_model.specs.declared.command.Command.TheVariants as command
use Rattle.exb_model.specs.EagerHistory.{risen, up_event, with_ups, opening}
use Rattle.exb_model.specs.History.{Basis, History, ◌then◌, command_of, bridge_after}
use Rattle.exb_model.specs.Input.{Segment}
use Rattle.exb_model.specs.LegalHistory.{number_of, PlaysCommands, settled_each}
use Rattle.exb_model.specs.Lists.{Pairwise}
use Rattle.exb_model.specs.Refusals.{refusal}
use Rattle.exb_model.specs.Setup.{Limits}
use Rattle.exb_model.specs.Tree.{Shape, opening_ports}

-- ---- the numbers of a history, the oldest first
numbers_one : (e : Event) (h : History) → filter_map number_of (reverse (e ∷ h)) ≡ filter_map number_of (reverse h) ++ filter_map number_of (e ∷ [])
numbers_one e h = ap (filter_map number_of) (reverse_onto h e []) ∙ filter_map-append number_of (reverse h) (e ∷ [])

pub numbers_then : (h : History) (es : List Event) → filter_map number_of (reverse (h then es)) ≡ filter_map number_of (reverse h) ++ filter_map number_of es
numbers_then h [] = sym (append-nil (filter_map number_of (reverse h)))
numbers_then h (e ∷ es) =
    numbers_then (e ∷ h) es
    ∙ (ap (λ (ns : List ℕ). ns ++ filter_map number_of es) (numbers_one e h)
    ∙ (append_assoc (filter_map number_of (reverse h)) (filter_map number_of (e ∷ [])) (filter_map number_of es)
    ∙ ap (λ (ns : List ℕ). filter_map number_of (reverse h) ++ ns) (sym (filter_map-append number_of (e ∷ []) es))))

-- the opening tells none
module _ (t : Shape) (l : Limits) (b : Basis) where
  ups_none : (ps : List ℕ) (h : History) → filter_map number_of (reverse h) ≡ [] → filter_map number_of (reverse (with_ups t l b h ps)) ≡ []
  ups_none [] h none = none
  ups_none (p ∷ ps) h none = ups_none ps (up_event t l (bridge_after b h) p ∷ h) (numbers_one (up_event t l (bridge_after b h) p) h ∙ (ap (λ (ns : List ℕ). ns ++ filter_map number_of (up_event t l (bridge_after b h) p ∷ [])) none ∙ by_cause (refusal t l (bridge_after b h) (command.Up p))))
    where
      by_cause : (o : Option Cause) → filter_map number_of (risen p o ∷ []) ≡ []
      by_cause None = refl
      by_cause (Some x) = refl

  pub opening_none : filter_map number_of (reverse (opening t l b)) ≡ []
  opening_none = (let h : History = with_ups t l b [] (opening_ports t) in numbers_one event.Settled h ∙ ap (λ (ns : List ℕ). ns ++ []) (ups_none (opening_ports t) [] refl))

-- and each segment its own
pub numbers_played : (ss : List Segment) (plays : List (List Event)) → Pairwise PlaysCommands ss plays → filter_map number_of (settled_each plays) ≡ flat_map (λ (s : Segment). s.commands) ss
numbers_played [] [] k = refl
numbers_played [] (es ∷ plays) k = absurd k
numbers_played (s ∷ ss) [] k = absurd k
numbers_played (s ∷ ss) (es ∷ plays) k =
    filter_map-append number_of (es ++ event.Settled ∷ []) (settled_each plays)
    ∙ (ap (λ (ns : List ℕ). ns ++ filter_map number_of (settled_each plays)) (filter_map-append number_of es (event.Settled ∷ []) ∙ (append-nil (filter_map number_of es) ∙ k.0))
    ∙ ap (λ (ns : List ℕ). s.commands ++ ns) (numbers_played ss plays k.1))

-- ---- commands by the numbers from 1 on
-- past the last there are none
none_past : (b : Basis) (n m : ℕ) → length b.commands ≤ n → filter_map (command_of b) (range_with_len (n + 1) m) ≡ []
none_past b n zero past = refl
none_past b n (suc m) past =
    let none : command_of b (n + 1) ≡ None = ap (command_of b) (as_suc n) ∙ slice_get_past b.commands n past in
    rw none (none_past b (n + 1) m (omega (arith, past)))
  where
    as_suc : (n : ℕ) → n + 1 ≡ suc n
    as_suc n = omega arith

get_first : (pre : List Command) (x : Command) (ys : List Command) → slice_get (pre ++ x ∷ ys) (length pre) ≡ Some x
get_first [] x ys = refl
get_first (y ∷ pre) x ys = get_first pre x ys

-- so many commands as numbers: they are the first
pub first_commands : (b : Basis) (pre more cs : List Command) → b.commands ≡ pre ++ more → filter_map (command_of b) (range_with_len (length pre + 1) (length cs)) ≡ cs → (rest : List Command) × (more ≡ cs ++ rest)
first_commands b pre more [] e k = (more, refl)
first_commands b pre [] (c ∷ cs) e k =
    let size = ap length (e ∙ append-nil pre) in
    absurd (no_more (sym (none_past b (length pre) (suc (length cs)) (omega (arith, size))) ∙ k))
  where
    no_more : [] ≡ c ∷ cs → ⊥
    no_more z = cc
first_commands b pre (x ∷ more) (c ∷ cs) e k =
    let here : command_of b (length pre + 1) ≡ Some x = ap (command_of b) (as_suc (length pre)) ∙ (ap (λ (xs : List Command). slice_get xs (length pre)) e ∙ get_first pre x more) in
    let both : x ∷ filter_map (command_of b) (range_with_len ((length pre + 1) + 1) (length cs)) ≡ c ∷ cs = rw here at k in
    let longer : length (pre ++ x ∷ []) + 1 ≡ (length pre + 1) + 1 = (let z = length-append pre (x ∷ []) in omega (arith, z)) in
    let r = first_commands b (pre ++ x ∷ []) more cs (e ∙ sym (append_assoc pre (x ∷ []) more)) (ap (λ (n : ℕ). filter_map (command_of b) (range_with_len n (length cs))) longer ∙ tails both) in
    (r.0, ap (λ (y : Command). y ∷ more) (heads both) ∙ ap (λ (ys : List Command). c ∷ ys) r.1)
  where
    as_suc : (n : ℕ) → n + 1 ≡ suc n
    as_suc n = omega arith

    heads : {u v : Command} {us vs : List Command} → u ∷ us ≡ v ∷ vs → u ≡ v
    heads z = cc

    tails : {u v : Command} {us vs : List Command} → u ∷ us ≡ v ∷ vs → us ≡ vs
    tails z = cc
