-- Rule 3 is decided, for each direction of each link, by what went out and is still to come.
use Rattle.std.proofs.Common.{◌≡◌, ◌⊎◌, ℕ, ◌+◌, ◌&&◌, cond, Bool, true, false, List, [], ◌∷◌, ◌++◌, length, Option, Some, None, refl, ap, sym, ◌∙◌, subst, inl, inr, append_assoc, append-nil, arith}
use Rattle.std.specs.Prelude.{option_and_then, option_map}
use Rattle.std.specs.Bool.{Decides}
use Rattle.std.specs.Str.{bytes_eq}
use Rattle.std.proofs.lemmas.Bool.{cases_Bool, false≢true}
use Rattle.std.proofs.lemmas.Bool.Decides.{Decides-like, Decides-and}
use Rattle.std.proofs.lemmas.List.{length-append, append_cancel_left}
use Rattle.std.proofs.lemmas.List.Concat.{flat_map-append}
use Rattle.exb_model.specs.Frames.{is_control_frame}
use Rattle.exb_model.specs.Traces.{TraceLine, In, Out, Beat, Journal}
use Rattle.exb_model.specs.Tree.{Shape, on}
use Rattle.exb_trace_spec.specs.CheckerLaws.{Rule3IsDecided}
use Rattle.exb_trace_spec.specs.TraceChecker.{through, without_front, is_used_up, data_before, some_within, is_in_time, controls_from, before_first, Link, new_link, put_more, goes_out, comes_in, link_line, Links, links_line, start_3, step_3, verdict_3}
use Rattle.exb_trace_spec.specs.Traversals.{EachSince}
use Rattle.exb_trace_spec.specs.Rule3Links.{Place, place_of, upstream_of, in_at, out_at, ins, outs, data_of, IsFront, WasSent, DataInOrder, ControlWasSent, GoesInOrder, AllCameIn}
use Rattle.exb_trace_spec.proofs.Prefixes.{data_append, data_more, control_more, front_itself}
use Rattle.exb_trace_spec.proofs.NumberedMachines.{at_each, extenders_decided}
use Rattle.exb_trace_spec.proofs.Rule3Times.{time_is_decided}
use Rattle.exb_trace_spec.proofs.Rule1And4Checker.{front_is, front_back}
use Rattle.exb_trace_spec.proofs.EqualBytes.{bytes_is}

-- ---- the state after these went out and those came in, where some are still to come
abbrev link_of : List (List ℕ) → List (List ℕ) → List (List ℕ) → Link
link_of out inn ws = record { controls = controls_from 0 out; gone = length (data_of out); came = length (data_of inn); waiting = Some ws }

-- ---- the control words that went out
controls_both : (n : ℕ) (xs ys : List (List ℕ)) → controls_from n (xs ++ ys) ≡ controls_from n xs ++ controls_from (n + length (data_of xs)) ys
controls_both n [] ys = ap (λ k. controls_from k ys) (omega arith)
controls_both n (x ∷ xs) ys =
    elim (cases_Bool (is_control_frame x)) [
      | inl c ↦ rw c (ap (λ cs. record { frame = x; before = n } ∷ cs) (controls_both n xs ys))
      | inr c ↦ rw c (controls_both (n + 1) xs ys ∙ ap (λ k. controls_from (n + 1) xs ++ controls_from k ys) (omega arith))
    ]

plus : ℕ → Option ℕ → Option ℕ
plus n None = None
plus n (Some k) = Some (n + k)

plus_none : (o : Option ℕ) → plus 0 o ≡ o
unfolding plus
plus_none None = refl
plus_none (Some k) = ap (λ m. Some m) (omega arith)

plus_more : (n : ℕ) (o : Option ℕ) → plus (n + 1) o ≡ plus n (option_map (λ k. 1 + k) o)
unfolding plus
plus_more n None = refl
plus_more n (Some k) = ap (λ m. Some m) (omega arith)

plus_same : (n : ℕ) (o : Option ℕ) → plus n o ≡ plus n (option_map (λ k. 0 + k) o)
unfolding plus
plus_same n None = refl
plus_same n (Some k) = ap (λ m. Some (n + m)) (omega arith)

other_frame : (x f : List ℕ) → is_control_frame x ≡ false → is_control_frame f ≡ true → bytes_eq x f ≡ false
other_frame x f d c = elim (cases_Bool (bytes_eq x f)) [ inr e ↦ e | inl e ↦ absurd (false≢true (sym d ∙ ap is_control_frame (bytes_is x f e) ∙ c)) ]

-- they tell of each control word what all that went out tells
first_is : (f : List ℕ) → is_control_frame f ≡ true → (n : ℕ) (xs : List (List ℕ)) → before_first f (controls_from n xs) ≡ plus n (data_before f xs)
unfolding plus
first_is f control n [] = refl
first_is f control n (x ∷ xs) =
    elim (cases_Bool (is_control_frame x)) [
      | inl c ↦ elim (cases_Bool (bytes_eq x f)) [
        | inl e ↦ rw (c, e) (ap (λ m. Some m) (omega arith))
        | inr e ↦ rw (c, e) (first_is f control n xs ∙ plus_same n (data_before f xs))
      ]
      | inr c ↦ rw (c, other_frame x f c control) (first_is f control (n + 1) xs ∙ plus_more n (data_before f xs))
    ]

time_is : (f : List ℕ) → is_control_frame f ≡ true → (out : List (List ℕ)) (came : ℕ) → some_within came (before_first f (controls_from 0 out)) ≡ is_in_time out came f
time_is f control out came = ap (some_within came) (first_is f control 0 out ∙ plus_none (data_before f out))

abbrev Waits : List (List ℕ) → List (List ℕ) → List (List ℕ) → Type 0
Waits out inn ws = data_of out ≡ data_of inn ++ ws

-- what rule 3 asks where a word comes in
record IsRight (out inn : List (List ℕ)) (f : List ℕ) : Type 0 where
  data_front : IsFront (data_of (inn ++ f ∷ [])) (data_of out)
  control : is_control_frame f ≡ true → WasSent out (data_of inn) f

-- a word that comes in
record Right (out inn : List (List ℕ)) (f : List ℕ) (x : Link) : Type 0 where
  ws : List (List ℕ)
  is : x ≡ link_of out (inn ++ f ∷ []) ws
  waits : Waits out (inn ++ f ∷ []) ws
  right : IsRight out inn f

record Wrong (out inn : List (List ℕ)) (f : List ℕ) (x : Link) : Type 0 where
  none : x.waiting ≡ None
  wrong : IsRight out inn f → ⊥

abbrev came_in : List (List ℕ) → List (List ℕ) → List (List ℕ) → List ℕ → Link
came_in out inn ws f = comes_in (f ∷ []) (link_of out inn ws)

some_same : {us vs : List (List ℕ)} → Some us ≡ Some vs → us ≡ vs
some_same e = cc

none_some : {us : List (List ℕ)} → None ≡ Some us → ⊥
none_some e = cc

module _ (out inn ws : List (List ℕ)) (f : List ℕ) (waits : Waits out inn ws) where
  front : IsFront (data_of inn) (data_of out)
  front = record { rest = ws; is = waits }

  control_comes : is_control_frame f ≡ true → (Right out inn f (came_in out inn ws f)) ⊎ (Wrong out inn f (came_in out inn ws f))
  control_comes c = by_time (is_in_time out (length (data_of inn)) f) refl
    where
      same : data_of (inn ++ f ∷ []) ≡ data_of inn
      same = control_more inn f c

      by_time : (b : Bool) → is_in_time out (length (data_of inn)) f ≡ b → (Right out inn f (came_in out inn ws f)) ⊎ (Wrong out inn f (came_in out inn ws f))
      by_time true e =
          inl record {
            ws = ws;
            is = rw (c, time_is f c out (length (data_of inn)) ∙ e) (ap (λ n. record { controls = controls_from 0 out; gone = length (data_of out); came = n; waiting = Some ws }) (ap length (sym same)));
            waits = waits ∙ ap (λ us. us ++ ws) (sym same);
            right = record {
              data_front = subst (λ us. IsFront us (data_of out)) (sym same) front;
              control = λ k. (time_is_decided out (data_of inn) f front).0 e;
            };
          }
      by_time false e =
          inr record {
            none = rw (c, time_is f c out (length (data_of inn)) ∙ e) refl;
            wrong = λ k. false≢true (sym e ∙ (time_is_decided out (data_of inn) f front).1 (k.control c));
          }

  data_comes : is_control_frame f ≡ false → (Right out inn f (came_in out inn ws f)) ⊎ (Wrong out inn f (came_in out inn ws f))
  data_comes c = by_front (without_front (f ∷ []) ws) refl
    where
      more : data_of (inn ++ f ∷ []) ≡ data_of inn ++ f ∷ []
      more = data_more inn f c

      count : length (data_of inn) + 1 ≡ length (data_of (inn ++ f ∷ []))
      count = sym (ap length more ∙ length-append (data_of inn) (f ∷ []))

      by_front : (o : Option (List (List ℕ))) → without_front (f ∷ []) ws ≡ o → (Right out inn f (came_in out inn ws f)) ⊎ (Wrong out inn f (came_in out inn ws f))
      by_front (Some zs) e =
          let is : data_of out ≡ data_of (inn ++ f ∷ []) ++ zs =
          waits ∙ ap (λ us. data_of inn ++ us) (front_is (f ∷ []) ws zs e) ∙ sym (append_assoc (data_of inn) (f ∷ []) zs) ∙ ap (λ us. us ++ zs) (sym more) in
          inl record {
            ws = zs;
            is = rw c (ap (λ o. record { controls = controls_from 0 out; gone = length (data_of out); came = length (data_of inn) + 1; waiting = o }) e ∙ ap (λ n. record { controls = controls_from 0 out; gone = length (data_of out); came = n; waiting = Some zs }) count);
            waits = is;
            right = record { data_front = record { rest = zs; is = is }; control = λ k. absurd (false≢true (sym c ∙ k)) };
          }
      by_front None e =
          inr record {
            none = rw c e;
            wrong = λ k. (
                let is : data_of inn ++ ws ≡ data_of inn ++ (f ∷ k.data_front.rest) =
                sym waits ∙ k.data_front.is ∙ ap (λ us. us ++ k.data_front.rest) more ∙ append_assoc (data_of inn) (f ∷ []) k.data_front.rest in
                let these : ws ≡ f ∷ k.data_front.rest = append_cancel_left (data_of inn) ws (f ∷ k.data_front.rest) is in
                none_some (sym e ∙ ap (without_front (f ∷ [])) these ∙ front_back (f ∷ []) k.data_front.rest)
                );
          }

  one_comes : (Right out inn f (came_in out inn ws f)) ⊎ (Wrong out inn f (came_in out inn ws f))
  one_comes = elim (cases_Bool (is_control_frame f)) [ inl c ↦ control_comes c | inr c ↦ data_comes c ]

-- words go out
out_is : (out inn ws fs : List (List ℕ)) → goes_out fs (link_of out inn ws) ≡ link_of (out ++ fs) inn (ws ++ data_of fs)
out_is out inn ws fs =
    ap (λ cs. record { controls = cs; gone = length (data_of out) + length (data_of fs); came = length (data_of inn); waiting = Some (ws ++ data_of fs) }) (ap (λ k. controls_from 0 out ++ controls_from k fs) zero_more ∙ sym (controls_both 0 out fs))
    ∙ ap (λ n. record { controls = controls_from 0 (out ++ fs); gone = n; came = length (data_of inn); waiting = Some (ws ++ data_of fs) }) (sym (ap length (data_append out fs) ∙ length-append (data_of out) (data_of fs)))
  where
    zero_more : length (data_of out) ≡ 0 + length (data_of out)
    zero_more = omega arith

outs_put : (out inn ws fs : List (List ℕ)) → Waits out inn ws → Waits (out ++ fs) inn (ws ++ data_of fs)
outs_put out inn ws fs k = data_append out fs ∙ ap (λ us. us ++ data_of fs) k ∙ append_assoc (data_of inn) ws (data_of fs)

-- ---- lines
-- none came in at a line, or one did and none went out
data Kind (i o : List (List ℕ)) : Type 0 where
  NoneIn : i ≡ [] → Kind i o
  OneIn : (f : List ℕ) → i ≡ f ∷ [] → o ≡ [] → Kind i o

kind_by : (b : Bool) (f : List ℕ) → Kind (cond b (f ∷ []) []) []
kind_by true f = OneIn f refl refl
kind_by false f = NoneIn refl

kind : (from to : Place) (l : TraceLine) → Kind (in_at to l) (out_at from l)
kind from to (In n k f) = kind_by _ f
kind from to (Out n k f) = NoneIn refl
kind from to Beat = NoneIn refl
kind from to (Journal text) = NoneIn refl

module _ (from to : Place) where
  outs_one : (before : List TraceLine) (l : TraceLine) → outs from (before ++ l ∷ []) ≡ outs from before ++ out_at from l
  outs_one before l = flat_map-append (out_at from) before (l ∷ []) ∙ ap (λ us. outs from before ++ us) (append-nil (out_at from l))

  ins_one : (before : List TraceLine) (l : TraceLine) → ins to (before ++ l ∷ []) ≡ ins to before ++ in_at to l
  ins_one before l = flat_map-append (in_at to) before (l ∷ []) ∙ ap (λ us. ins to before ++ us) (append-nil (in_at to l))

  abbrev IsGood : List TraceLine → TraceLine → Type 0
  IsGood before l = DataInOrder from to (before ++ l ∷ []) × ControlWasSent from to before l

  record Good (before : List TraceLine) (l : TraceLine) (x : Link) : Type 0 where
    ws : List (List ℕ)
    is : x ≡ link_of (outs from (before ++ l ∷ [])) (ins to (before ++ l ∷ [])) ws
    waits : Waits (outs from (before ++ l ∷ [])) (ins to (before ++ l ∷ [])) ws
    good : IsGood before l

  record Bad (before : List TraceLine) (l : TraceLine) (x : Link) : Type 0 where
    none : x.waiting ≡ None
    bad : IsGood before l → ⊥

  abbrev after : List TraceLine → List (List ℕ) → TraceLine → Link
  after before ws l = link_line from to (link_of (outs from before) (ins to before) ws) l

  module _ (before : List TraceLine) (l : TraceLine) (ws : List (List ℕ)) (waits : Waits (outs from before) (ins to before) ws) where
    put : Waits (outs from before ++ out_at from l) (ins to before) (ws ++ data_of (out_at from l))
    put = outs_put (outs from before) (ins to before) ws (out_at from l) waits

    none_comes : in_at to l ≡ [] → Good before l (after before ws l)
    none_comes e =
        let i : ins to (before ++ l ∷ []) ≡ ins to before = ins_one before l ∙ ap (λ us. ins to before ++ us) e ∙ append-nil (ins to before) in
        let o = outs_one before l in
        let now : Waits (outs from (before ++ l ∷ [])) (ins to (before ++ l ∷ [])) (ws ++ data_of (out_at from l)) = ap data_of o ∙ put ∙ ap (λ us. data_of us ++ (ws ++ data_of (out_at from l))) (sym i) in
        record {
          ws = ws ++ data_of (out_at from l);
          is = ap (λ fs. comes_in fs (goes_out (out_at from l) (link_of (outs from before) (ins to before) ws))) e
              ∙ out_is (outs from before) (ins to before) ws (out_at from l)
              ∙ ap (λ us. link_of us (ins to before) (ws ++ data_of (out_at from l))) (sym o) ∙ ap (λ us. link_of (outs from (before ++ l ∷ [])) us (ws ++ data_of (out_at from l))) (sym i);
          waits = now;
          good = (record { rest = ws ++ data_of (out_at from l); is = now }, λ f there c. absurd (none_one (sym e ∙ there)));
        }
      where
        none_one : {f : List ℕ} → [] ≡ f ∷ [] → ⊥
        none_one k = cc

    one_more : (f : List ℕ) → in_at to l ≡ f ∷ [] → out_at from l ≡ [] → (Good before l (after before ws l)) ⊎ (Bad before l (after before ws l))
    one_more f e none = by_word (one_comes (outs from before) (ins to before) ws f waits)
      where
        i : ins to (before ++ l ∷ []) ≡ ins to before ++ f ∷ []
        i = ins_one before l ∙ ap (λ us. ins to before ++ us) e

        o : outs from (before ++ l ∷ []) ≡ outs from before
        o = outs_one before l ∙ ap (λ us. outs from before ++ us) none ∙ append-nil (outs from before)

        same : goes_out [] (link_of (outs from before) (ins to before) ws) ≡ link_of (outs from before) (ins to before) ws
        same = out_is (outs from before) (ins to before) ws [] ∙ ap (λ us. link_of us (ins to before) (ws ++ [])) (append-nil (outs from before)) ∙ ap (λ us. link_of (outs from before) (ins to before) us) (append-nil ws)

        is : after before ws l ≡ came_in (outs from before) (ins to before) ws f
        is = ap (λ fs. comes_in fs (goes_out (out_at from l) (link_of (outs from before) (ins to before) ws))) e
            ∙ ap (λ gs. comes_in (f ∷ []) (goes_out gs (link_of (outs from before) (ins to before) ws))) none ∙ ap (comes_in (f ∷ [])) same

        one_same : {g : List ℕ} → f ∷ [] ≡ g ∷ [] → f ≡ g
        one_same k = cc

        good_from : IsRight (outs from before) (ins to before) f → IsGood before l
        good_from k = (
          subst (λ us. IsFront (data_of us) (data_of (outs from (before ++ l ∷ [])))) (sym i) (subst (λ us. IsFront (data_of (ins to before ++ f ∷ [])) (data_of us)) (sym o) k.data_front),
          λ g there c. (let eq : f ≡ g = one_same (sym e ∙ there) in subst (λ h. WasSent (outs from before) (data_of (ins to before)) h) eq (k.control (ap is_control_frame eq ∙ c))),
        )

        right_from : IsGood before l → IsRight (outs from before) (ins to before) f
        right_from k =
            record {
              data_front = subst (λ us. IsFront (data_of (ins to before ++ f ∷ [])) (data_of us)) o (subst (λ us. IsFront (data_of us) (data_of (outs from (before ++ l ∷ [])))) i k.0);
              control = λ c. k.1 f e c;
            }

        by_word : (Right (outs from before) (ins to before) f (came_in (outs from before) (ins to before) ws f)) ⊎ (Wrong (outs from before) (ins to before) f (came_in (outs from before) (ins to before) ws f)) →
            (Good before l (after before ws l)) ⊎ (Bad before l (after before ws l))
        by_word (inl k) =
            inl record {
              ws = k.ws;
              is = is ∙ k.is ∙ ap (λ us. link_of us (ins to before ++ f ∷ []) k.ws) (sym o) ∙ ap (λ us. link_of (outs from (before ++ l ∷ [])) us k.ws) (sym i);
              waits = ap data_of o ∙ k.waits ∙ ap (λ us. data_of us ++ k.ws) (sym i);
              good = good_from k.right;
            }
        by_word (inr k) = inr record { none = ap (λ (x : Link). x.waiting) is ∙ k.none; bad = λ g. k.wrong (right_from g) }

    one_line : (Good before l (after before ws l)) ⊎ (Bad before l (after before ws l))
    one_line = by_kind (kind from to l)
      where
        by_kind : Kind (in_at to l) (out_at from l) → (Good before l (after before ws l)) ⊎ (Bad before l (after before ws l))
        by_kind (NoneIn e) = inl (none_comes e)
        by_kind (OneIn f e none) = one_more f e none

  -- once wrong it stays so
  still_none : (fs : List (List ℕ)) (x : Link) → x.waiting ≡ None → (comes_in fs x).waiting ≡ None
  still_none [] x e = e
  still_none (f ∷ fs) x e =
      elim (cases_Bool (is_control_frame f)) [
        | inl c ↦ rw c (by_time (some_within x.came (before_first f x.controls)))
        | inr c ↦ rw c (ap (option_and_then (without_front (f ∷ []))) e)
      ]
    where
      by_time : (b : Bool) → cond b x.waiting None ≡ None
      by_time true = e
      by_time false = refl

  stuck : (x : Link) (lines : List TraceLine) → x.waiting ≡ None → (through (link_line from to) x lines).waiting ≡ None
  stuck x [] e = e
  stuck x (l ∷ ls) e = stuck (link_line from to x l) ls (still_none (in_at to l) (goes_out (out_at from l) x) (ap (put_more (out_at from l)) e))

  abbrev IsWhole : List TraceLine → List TraceLine → Type 0
  IsWhole before lines = EachSince (λ b l. DataInOrder from to (b ++ l ∷ [])) before lines × EachSince (ControlWasSent from to) before lines × AllCameIn from to (before ++ lines)

  used : (before : List TraceLine) (ws : List (List ℕ)) → Waits (outs from before) (ins to before) ws → Decides (is_used_up (Some ws)) (AllCameIn from to before)
  used before [] waits = (λ h. sym (waits ∙ append-nil (data_of (ins to before))), λ h. refl)
  used before (w ∷ ws) waits = (λ h. absurd (false≢true h), λ h. absurd (cons_nil (append_cancel_left (data_of (ins to before)) (w ∷ ws) [] (sym waits ∙ sym h ∙ sym (append-nil (data_of (ins to before)))))))
    where
      cons_nil : w ∷ ws ≡ [] → ⊥
      cons_nil k = cc

  linked : (before lines : List TraceLine) (ws : List (List ℕ)) → Waits (outs from before) (ins to before) ws →
      Decides (is_used_up (through (link_line from to) (link_of (outs from before) (ins to before) ws) lines).waiting) (IsWhole before lines)
  linked before [] ws waits =
      let d = used before ws waits in
      (λ h. (tt, tt, subst (AllCameIn from to) (sym (append-nil before)) (d.0 h)), λ h. d.1 (subst (AllCameIn from to) (append-nil before) h.2))
  linked before (l ∷ ls) ws waits = by_line (λ us k. linked (before ++ l ∷ []) ls us k) (one_line before l ws waits)
    where
      by_line : ((us : List (List ℕ)) → Waits (outs from (before ++ l ∷ [])) (ins to (before ++ l ∷ [])) us →
          Decides (is_used_up (through (link_line from to) (link_of (outs from (before ++ l ∷ [])) (ins to (before ++ l ∷ [])) us) ls).waiting) (IsWhole (before ++ l ∷ []) ls)) →
          (Good before l (after before ws l)) ⊎ (Bad before l (after before ws l)) → Decides (is_used_up (through (link_line from to) (after before ws l) ls).waiting) (IsWhole before (l ∷ ls))
      by_line more (inl k) =
          let d = more k.ws k.waits in
          let is = ap (λ x. is_used_up (through (link_line from to) x ls).waiting) k.is in (
            λ h. (let j = d.0 (sym is ∙ h) in ((k.good.0, j.0), (k.good.1, j.1), subst (AllCameIn from to) (append_assoc before (l ∷ []) ls) j.2)),
            λ h. is ∙ d.1 (h.0.1, h.1.1, subst (AllCameIn from to) (sym (append_assoc before (l ∷ []) ls)) h.2),
          )
      by_line more (inr k) =
          (λ h. absurd (false≢true (sym (ap is_used_up (stuck (after before ws l) ls k.none)) ∙ h)), λ h. absurd (k.bad (h.0.0, h.1.0)))

  record GoesWhole (lines : List TraceLine) : Type 0 where
    in_order : GoesInOrder from to lines
    empty : AllCameIn from to lines

  direction : (lines : List TraceLine) → Decides (is_used_up (through (link_line from to) new_link lines).waiting) (GoesWhole lines)
  direction lines =
      Decides-like (is_used_up (through (link_line from to) new_link lines).waiting)
      (λ k. record { in_order = record { data_in_order = (front_itself [], k.0); control_in_order = k.1 }; empty = k.2 })
      (λ k. (k.in_order.data_in_order.1, k.in_order.control_in_order, k.empty))
      (linked [] lines [] refl)

-- ---- both directions of each link
module _ (t : Shape) (n : ℕ) where
  links_up : (x : Links) (lines : List TraceLine) → (through (links_line t n) x lines).up ≡ through (link_line (upstream_of n) (place_of (on t n))) x.up lines
  links_up x [] = refl
  links_up x (l ∷ ls) = links_up (links_line t n x l) ls

  links_down : (x : Links) (lines : List TraceLine) → (through (links_line t n) x lines).down ≡ through (link_line (place_of (on t n)) (upstream_of n)) x.down lines
  links_down x [] = refl
  links_down x (l ∷ ls) = links_down (links_line t n x l) ls

  abbrev Both : List TraceLine → Type 0
  Both lines = GoesWhole (upstream_of n) (place_of (on t n)) lines × GoesWhole (place_of (on t n)) (upstream_of n) lines

  both_decided : (lines : List TraceLine) (x : Links) → x ≡ through (links_line t n) (start_3 n) lines → Decides (is_used_up x.up.waiting && is_used_up x.down.waiting) (Both lines)
  both_decided lines x e =
      Decides-and (is_used_up x.up.waiting) (is_used_up x.down.waiting)
      (subst (λ (y : Link). Decides (is_used_up y.waiting) (GoesWhole (upstream_of n) (place_of (on t n)) lines)) (sym (ap (λ (y : Links). y.up) e ∙ links_up (start_3 n) lines)) (direction (upstream_of n) (place_of (on t n)) lines))
      (subst (λ (y : Link). Decides (is_used_up y.waiting) (GoesWhole (place_of (on t n)) (upstream_of n) lines)) (sym (ap (λ (y : Links). y.down) e ∙ links_down (start_3 n) lines)) (direction (place_of (on t n)) (upstream_of n) lines))

pub rule_3_is_decided : Rule3IsDecided
rule_3_is_decided t lines sized =
    let s : ℕ → Links = through (step_3 t) start_3 lines in
    Decides-like (verdict_3 t s)
    (λ k. record {
      in_order = λ n there. record { up = (k n there).0.in_order; down = (k n there).1.in_order };
      empty = λ n there. record { up = (k n there).0.empty; down = (k n there).1.empty };
    })
    (λ k n there. (record { in_order = (k.in_order n there).up; empty = (k.empty n there).up }, record { in_order = (k.in_order n there).down; empty = (k.empty n there).down }))
    (extenders_decided t (λ n. is_used_up (s n).up.waiting && is_used_up (s n).down.waiting) (λ n. Both t n lines) sized (λ n. both_decided t n lines (s n) (at_each (links_line t) start_3 lines n)))
