-- Rule 3: what is kept of a direction is what the machine has of it.
use Rattle.std.proofs.Common.{◌≡◌, ℕ, zero, suc, ◌+◌, ◌<◌, ◌≤◌, nat_le, cond, Bool, true, false, List, [], ◌∷◌, ◌++◌, length, drop, Option, Some, None, refl, sym, ap, ◌∙◌, subst, arith, inl, inr, append-nil}
use Rattle.std.specs.Prelude.{is_some, option_map, option_and_then, slice_get}
use Rattle.std.specs.Str.{bytes_eq}
use Rattle.std.proofs.lemmas.Bool.{cases_Bool, cases_lt, false≢true, leb-true, le-leb}
use Rattle.std.proofs.lemmas.List.{drop_more, drop_all, length_push, drop-append-le}
use Rattle.std.proofs.lemmas.Option.{slice_get_within, get_or_from_slice_get}
use Rattle.std.proofs.lemmas.Slice.Eq.{bytes_eq-Decides}
use Rattle.exb_model.specs.Frames.{is_control_frame}
use Rattle.exb_model.specs.Traces.{TraceLine}
use Rattle.exb_trace_spec.specs.TraceChecker.{through, without_front, is_used_up, some_within, Control, before_first, Link, new_link, goes_out, comes_in, link_line}
use Rattle.exb_trace_spec.specs.Rule3Links.{Place, in_at, out_at, data_of}
use Rattle.exb_audit.specs.declared.rule3_links.LinkDirection.{LinkDirection}
use Rattle.exb_audit.specs.Frames.{is_next}
use Rattle.exb_audit.specs.Rule3Links.{some_or, noted, IsLink, IsDirection, used_up}
use Rattle.exb_audit.proofs.FrameCounts.{next_is, is_there}

get_dropped : (us : List (List ℕ)) (n : ℕ) (f : List ℕ) (rest : List (List ℕ)) → drop n us ≡ f ∷ rest → slice_get us n ≡ Some f
get_dropped [] zero f rest h = absurd (cc)
get_dropped [] (suc n) f rest h = absurd (cc)
get_dropped (u ∷ us) zero f rest h = first h
  where
    first : u ∷ us ≡ f ∷ rest → Some u ≡ Some f
    first k = cc
get_dropped (u ∷ us) (suc n) f rest h = get_dropped us n f rest h

-- ---- what comes in
abbrev control_in : List ℕ → Link → Link
control_in f x = record x { waiting = cond (some_within x.came (before_first f x.controls)) x.waiting None }

abbrev data_in : List ℕ → Link → Link
data_in f x = record x { came = x.came + 1; waiting = option_and_then (without_front (f ∷ [])) x.waiting }

come_control : (f : List ℕ) (fs : List (List ℕ)) (x : Link) → is_control_frame f ≡ true → comes_in (f ∷ fs) x ≡ control_in f x
come_control f fs x c = ap (λ (b : Bool). cond b (control_in f x) (data_in f x)) c

come_data : (f : List ℕ) (fs : List (List ℕ)) (x : Link) → is_control_frame f ≡ false → comes_in (f ∷ fs) x ≡ data_in f x
come_data f fs x c = ap (λ (b : Bool). cond b (control_in f x) (data_in f x)) c

-- ---- control words
pub first_more : (g : List ℕ) (cs : List Control) (f : List ℕ) (n : ℕ) → before_first g (cs ++ record { frame = f; before = n } ∷ []) ≡ some_or (before_first g cs) (noted f n g)
first_more g [] f n = by_test (bytes_eq f g)
  where
    by_test : (b : Bool) → cond b (Some n) None ≡ cond b (Some n) None
    by_test b = refl
first_more g (c ∷ cs) f n =
    elim (cases_Bool (bytes_eq c.frame g)) [
      | inl e ↦ rw e refl
      | inr e ↦ rw e (first_more g cs f n)
    ]

module _ (known : List ℕ → Option ℕ) (sent : List (List ℕ)) (came : ℕ) (x : Link) (s : IsLink known sent came x) where
  no_more : (w : Option (List (List ℕ))) → option_map (λ (ws : List (List ℕ)). ws ++ []) w ≡ w
  no_more None = refl
  no_more (Some ws) = ap (λ (us : List (List ℕ)). Some us) (append-nil ws)

  -- nothing goes out
  pub none_goes : IsLink known sent came (goes_out [] x)
  none_goes = record {
    known_first = λ f. s.known_first f ∙ ap (before_first f) (sym (append-nil x.controls));
    gone = (omega (arith, s.gone));
    came_in = s.came_in;
    low = s.low;
    waiting = no_more x.waiting ∙ s.waiting;
  }

  -- a control word goes out
  pub control_goes : (f : List ℕ) (then_known : List ℕ → Option ℕ) → is_control_frame f ≡ true → ((g : List ℕ) → then_known g ≡ some_or (known g) (noted f (length sent) g)) → IsLink then_known sent came (goes_out (f ∷ []) x)
  control_goes f then_known c e = record {
    known_first = λ g. e g ∙ ap (λ o. some_or o (noted f (length sent) g)) (s.known_first g) ∙ ap (λ n. some_or (before_first g x.controls) (noted f n g)) (sym s.gone)
        ∙ sym (first_more g x.controls f x.gone) ∙ ap (λ b. before_first g (x.controls ++ cond b (record { frame = f; before = x.gone } ∷ []) [])) (sym c);
    gone = ap (λ ds. x.gone + length ds) no_data ∙ omega (arith, s.gone);
    came_in = s.came_in;
    low = s.low;
    waiting = ap (λ ds. option_map (λ (ws : List (List ℕ)). ws ++ ds) x.waiting) no_data ∙ no_more x.waiting ∙ s.waiting;
  }
    where
      no_data : data_of (f ∷ []) ≡ []
      no_data = rw c refl

  -- a data word goes out
  pub data_goes : (f : List ℕ) → is_control_frame f ≡ false → IsLink known (sent ++ f ∷ []) came (goes_out (f ∷ []) x)
  data_goes f c = record {
    known_first = λ g. s.known_first g ∙ ap (before_first g) (sym (append-nil x.controls)) ∙ ap (λ b. before_first g (x.controls ++ cond b (record { frame = f; before = x.gone } ∷ []) [])) (sym c);
    gone = ap (λ ds. x.gone + length ds) one_data ∙ ap (λ n. n + 1) s.gone ∙ sym (length_push sent f);
    came_in = s.came_in;
    low = (let low = s.low in let more = length_push sent f in omega (arith, low, more));
    waiting = ap (λ ds. option_map (λ (ws : List (List ℕ)). ws ++ ds) x.waiting) one_data ∙ ap (option_map (λ (ws : List (List ℕ)). ws ++ f ∷ [])) s.waiting ∙ ap (λ (us : List (List ℕ)). Some us) (sym (drop-append-le came sent (f ∷ []) s.low));
  }
    where
      one_data : data_of (f ∷ []) ≡ f ∷ []
      one_data = rw c refl

  -- a control word comes in
  in_time : (f : List ℕ) → some_within came (known f) ≡ some_within x.came (before_first f x.controls)
  in_time f = ap (some_within came) (s.known_first f) ∙ ap (λ n. some_within n (before_first f x.controls)) (sym s.came_in)

  pub control_comes : (f : List ℕ) → is_control_frame f ≡ true → some_within came (known f) ≡ true → IsLink known sent came (comes_in (f ∷ []) x)
  control_comes f c e = subst (IsLink known sent came) (sym is) record { known_first = s.known_first; gone = s.gone; came_in = s.came_in; low = s.low; waiting = s.waiting }
    where
      is : comes_in (f ∷ []) x ≡ record x { waiting = x.waiting }
      is = rw (c, sym (in_time f) ∙ e) refl

  pub control_wrong : (f : List ℕ) → is_control_frame f ≡ true → some_within came (known f) ≡ false → (comes_in (f ∷ []) x).waiting ≡ None
  control_wrong f c e = rw (c, sym (in_time f) ∙ e) refl

  -- a data word comes in
  pub data_comes : (f : List ℕ) → is_control_frame f ≡ false → is_next sent came f ≡ true → IsLink known sent (came + 1) (comes_in (f ∷ []) x)
  data_comes f c next = subst (IsLink known sent (came + 1)) (sym is) record { known_first = s.known_first; gone = s.gone; came_in = ap (λ n. n + 1) s.came_in; low = (let l = within in omega (arith, l)); waiting = left }
    where
      there : slice_get sent came ≡ Some f
      there = next_is sent came f next

      within : came < length sent
      within = slice_get_within sent came f there

      front : drop came sent ≡ f ∷ drop (came + 1) sent
      front = drop_more sent came f within ∙ ap (λ g. g ∷ drop (came + 1) sent) (get_or_from_slice_get sent came f f there)

      is : comes_in (f ∷ []) x ≡ record x { came = x.came + 1; waiting = option_and_then (without_front (f ∷ [])) x.waiting }
      is = rw c refl

      left : option_and_then (without_front (f ∷ [])) x.waiting ≡ Some (drop (came + 1) sent)
      left = ap (option_and_then (without_front (f ∷ []))) (s.waiting ∙ ap (λ (us : List (List ℕ)). Some us) front) ∙ ap (λ b. cond b (Some (drop (came + 1) sent)) None) ((bytes_eq-Decides f f).1 refl)

  pub data_wrong : (f : List ℕ) → is_control_frame f ≡ false → is_next sent came f ≡ false → (comes_in (f ∷ []) x).waiting ≡ None
  data_wrong f c next = ap (λ (y : Link). y.waiting) (come_data f [] x c)
      ∙ ap (option_and_then (without_front (f ∷ []))) s.waiting ∙ by_rest (drop came sent) refl
    where
      by_rest : (rest : List (List ℕ)) → drop came sent ≡ rest → without_front (f ∷ []) rest ≡ None
      by_rest [] e = refl
      by_rest (g ∷ rest) e =
          elim (cases_Bool (bytes_eq f g)) [
            | inr other ↦ ap (λ b. cond b (Some rest) None) other
            | inl same ↦ absurd (false≢true (sym next ∙ is_there sent came f (there same)))
          ]
        where
          there : bytes_eq f g ≡ true → slice_get sent came ≡ Some f
          there same = get_dropped sent came f rest (e ∙ ap (λ h. h ∷ rest) (sym ((bytes_eq-Decides f g).0 same)))

-- ---- lines
module _ (from to : Place) where
  -- what comes of a line that is of neither place
  pub passes : (known : List ℕ → Option ℕ) (sent : List (List ℕ)) (came : ℕ) (x : Link) (l : TraceLine) → in_at to l ≡ [] → out_at from l ≡ [] → IsLink known sent came x → IsLink known sent came (link_line from to x l)
  passes known sent came x l i o s = subst (IsLink known sent came) (ap (λ fs. comes_in fs (goes_out [] x)) (sym i) ∙ ap (λ gs. comes_in (in_at to l) (goes_out gs x)) (sym o)) (none_goes known sent came x s)

  -- none comes in any more
  stuck_in : (fs : List (List ℕ)) (x : Link) → x.waiting ≡ None → (comes_in fs x).waiting ≡ None
  stuck_in [] x e = e
  stuck_in (f ∷ fs) x e =
      elim (cases_Bool (is_control_frame f)) [
        | inl c ↦ ap (λ (y : Link). y.waiting) (come_control f fs x c) ∙ by_time (some_within x.came (before_first f x.controls))
        | inr c ↦ ap (λ (y : Link). y.waiting) (come_data f fs x c) ∙ ap (option_and_then (without_front (f ∷ []))) e
      ]
    where
      by_time : (b : Bool) → cond b x.waiting None ≡ None
      by_time true = e
      by_time false = refl

  stuck_line : (x : Link) (l : TraceLine) → x.waiting ≡ None → (link_line from to x l).waiting ≡ None
  stuck_line x l e = stuck_in (in_at to l) (goes_out (out_at from l) x) (ap (option_map (λ (ws : List (List ℕ)). ws ++ data_of (out_at from l))) e)

  pub stuck : (x : Link) (ls : List TraceLine) → x.waiting ≡ None → (through (link_line from to) x ls).waiting ≡ None
  stuck x [] e = e
  stuck x (l ∷ ls) e = stuck (link_line from to x l) ls (stuck_line x l e)

-- the rest of the lines leads from here to what all lines come to
pub record IsCarrying (from to : Place) (d : LinkDirection) (all rest : List TraceLine) : Type 0 where
  pub x : Link
  pub is : IsDirection d x
  pub whole : through (link_line from to) new_link all ≡ through (link_line from to) x rest

module _ (from to : Place) (all : List TraceLine) where
  pub carrying_first : (d : LinkDirection) → IsDirection d new_link → IsCarrying from to d all all
  carrying_first d s = record { x = new_link; is = s; whole = refl }

  pub carrying_more : (d e : LinkDirection) (l : TraceLine) (rest before : List TraceLine) → before ≡ l ∷ rest → ((x : Link) → IsDirection d x → IsDirection e (link_line from to x l)) → IsCarrying from to d all before → IsCarrying from to e all rest
  carrying_more d e l rest before parts step c = record { x = link_line from to c.x l; is = step c.x c.is; whole = c.whole ∙ ap (through (link_line from to) c.x) parts }

  pub carrying_wrong : (d : LinkDirection) (l : TraceLine) (rest before : List TraceLine) → before ≡ l ∷ rest → ((x : Link) → IsDirection d x → (link_line from to x l).waiting ≡ None) → IsCarrying from to d all before → false ≡ used_up from to all
  carrying_wrong d l rest before parts step c =
      sym (ap (λ x. is_used_up x.waiting) (c.whole ∙ ap (through (link_line from to) c.x) parts) ∙ ap is_used_up (stuck from to (link_line from to c.x l) rest (step c.x c.is)))

  pub carrying_last : (d : LinkDirection) (rest : List TraceLine) (r : Bool) → rest ≡ [] → ((x : Link) → IsDirection d x → r ≡ is_used_up x.waiting) → IsCarrying from to d all rest → r ≡ used_up from to all
  carrying_last d rest r none step c = step c.x c.is ∙ sym (ap (λ x. is_used_up x.waiting) (c.whole ∙ ap (through (link_line from to) c.x) none))

-- all data words came in
left_none : (known : List ℕ → Option ℕ) (sent : List (List ℕ)) (came : ℕ) (x : Link) → IsLink known sent came x → length sent ≤ came → is_used_up x.waiting ≡ true
left_none known sent came x s high = ap is_used_up (s.waiting ∙ ap (λ (us : List (List ℕ)). Some us) (drop_all came sent high))

left_some : (known : List ℕ → Option ℕ) (sent : List (List ℕ)) (came : ℕ) (x : Link) → IsLink known sent came x → came < length sent → is_used_up x.waiting ≡ false
left_some known sent came x s low = ap is_used_up (s.waiting ∙ ap (λ (us : List (List ℕ)). Some us) (drop_more sent came [] low))

pub all_came : (known : List ℕ → Option ℕ) (sent : List (List ℕ)) (came : ℕ) (x : Link) (n : ℕ) → n ≡ length sent → IsLink known sent came x → nat_le n came ≡ is_used_up x.waiting
all_came known sent came x n e s =
    elim (cases_lt came (length sent)) [
      | inr high ↦ le-leb n came (omega (arith, e, high)) ∙ sym (left_none known sent came x s high)
      | inl low ↦ not_le low ∙ sym (left_some known sent came x s low)
    ]
  where
    not_le : came < length sent → nat_le n came ≡ false
    not_le low = elim (cases_Bool (nat_le n came)) [ inr over ↦ over | inl under ↦ (let k = leb-true n came under in absurd (omega (arith, k, e, low))) ]

-- what was noted before stays
or_none : (o : Option ℕ) → some_or o None ≡ o
or_none None = refl
or_none (Some n) = refl

none_or : (o p : Option ℕ) → is_some o ≡ false → some_or o p ≡ p
none_or None p e = refl
none_or (Some n) p e = absurd (false≢true (sym e))

pub noted_new : (old new : List ℕ → Option ℕ) (f : List ℕ) (n : ℕ) → is_some (old f) ≡ false → ((g : List ℕ) → new g ≡ cond (bytes_eq f g) (Some n) (old g)) → (g : List ℕ) → new g ≡ some_or (old g) (noted f n g)
noted_new old new f n none upd g =
    elim (cases_Bool (bytes_eq f g)) [
      | inl same ↦ upd g ∙ ap (λ b. cond b (Some n) (old g)) same
          ∙ sym (ap (λ b. some_or (old g) (cond b (Some n) None)) same ∙ none_or (old g) (Some n) (ap (λ h. is_some (old h)) (sym ((bytes_eq-Decides f g).0 same)) ∙ none))
      | inr other ↦ upd g ∙ ap (λ b. cond b (Some n) (old g)) other ∙ sym (ap (λ b. some_or (old g) (cond b (Some n) None)) other ∙ or_none (old g))
    ]
