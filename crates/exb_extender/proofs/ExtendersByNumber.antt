-- The extenders by number.
use Rattle.std.proofs.Common.{◌≡◌, ◌≢◌, ◌⊎◌, ◌↔◌, ℕ, zero, suc, ◌+◌, ◌%◌, ◌<◌, ◌≤◌, ◌==◌, ◌&&◌, ◌||◌, Bool, true, false, not, IsTrue, List, [], ◌∷◌, ◌++◌, length, set, get_or, nat_lt, refl, ap, sym, ◌∙◌, subst, arith, inl, inr, eq-eqb}
use Rattle.std.specs.Prelude.{if◌then◌else◌, Option, Some, None, slice_get, slice_index}
use Rattle.std.specs.Option.{is_some}
use Rattle.std.proofs.lemmas.Bool.{cases_eq, cases_lt, cases_Bool, ne_eqb, and_from, and_parts, lt-ltb, ltb-true, false≢true}
use Rattle.std.proofs.lemmas.List.{get_or_past, length-set}
use mathlib.Core.Path.{fun_ext}
use Rattle.exb_model.specs.Tree.{Shape, is_extender}
use Rattle.exb_csp.specs.Execution.{ExtenderTables}
use Rattle.exb_ecp.specs.StopAndWait.{State}
use Rattle.exb_extender.specs.Fields.{Fields, state_of}
use Rattle.exb_extender.specs.Machine.{ExtenderState, at_power_on}
use Rattle.exb_model.specs.Tables.{at}
use Rattle.exb_extender.specs.IdleExtender.{rests, rested}
use Rattle.exb_extender.proofs.IdleLemmas.{awake_is, one_more, rests_rested, same_tables, same_end}
use Rattle.exb_extender.specs.Extenders.{Devices, state_at, far_of, first_far, if_rests, is_there, has_extender, IsPoweredOn, AreSame, AreNoted, sent_at, waits_at}
use Rattle.exb_model.specs.DeviceSets.{number_in}
use Rattle.exb_model.proofs.DeviceSets.{none_in_0}

-- ---- one of them changes
module _ {A : Type 0} where
  pub get_set : (xs : List A) (n : ℕ) (x : A) → n < length xs → slice_get (set xs n x) n ≡ Some x
  get_set [] n x within = absurd (omega arith)
  get_set (y ∷ ys) zero x within = refl
  get_set (y ∷ ys) (suc n) x within = get_set ys n x (omega arith)

  pub get_set_other : (xs : List A) (n m : ℕ) (x : A) → m ≢ n → slice_get (set xs n x) m ≡ slice_get xs m
  get_set_other [] n m x other = refl
  get_set_other (y ∷ ys) zero zero x other = absurd (other refl)
  get_set_other (y ∷ ys) zero (suc m) x other = refl
  get_set_other (y ∷ ys) (suc n) zero x other = refl
  get_set_other (y ∷ ys) (suc n) (suc m) x other = get_set_other ys n m x (λ e. other (ap suc e))

  pub get_within : (xs : List A) (n : ℕ) (x : A) → slice_get xs n ≡ Some x → n < length xs
  get_within [] n x e = absurd cc
  get_within (y ∷ ys) zero x e = omega arith
  get_within (y ∷ ys) (suc n) x e = let l = get_within ys n x e in omega arith

abbrev pub devices : List ℕ → List (Option Fields) → ℕ → Devices
devices ports xs passed = record { ports = ports; extenders = xs; passed = passed }

module _ (ports : List ℕ) (xs : List (Option Fields)) (passed n : ℕ) (f : Fields) where
  pub far_set : n < length xs → far_of (devices ports (set xs n (Some f)) passed) ≡ at n (rested passed (state_of f)) (far_of (devices ports xs passed))
  far_set within = fun_ext (λ m. by_place m)
    where
      by_place : (m : ℕ) → far_of (devices ports (set xs n (Some f)) passed) m ≡ at n (rested passed (state_of f)) (far_of (devices ports xs passed)) m
      by_place m =
          elim (cases_eq m n) [
            | inl is ↦ rw (is, eq-eqb n n refl, get_set xs n (Some f) within) refl
            | inr ne ↦ rw (ne_eqb m n ne, get_set_other xs n m (Some f) ne) refl
          ]

  pub same_set : (g : Fields) → slice_get xs n ≡ Some (Some g) → (rested passed (state_of f)).tables.ports ≡ (rested passed (state_of g)).tables.ports →
      AreSame (devices ports xs passed) (devices ports (set xs n (Some f)) passed)
  same_set g at ports_same = record { there = λ m. there m; ports = λ m. ports_at m }
    where
      within : n < length xs
      within = get_within xs n (Some g) at

      there : (m : ℕ) → has_extender (devices ports (set xs n (Some f)) passed) m ≡ has_extender (devices ports xs passed) m
      there m =
          elim (cases_eq m n) [
            | inl is ↦ rw (is, get_set xs n (Some f) within, at) refl
            | inr ne ↦ rw (get_set_other xs n m (Some f) ne) refl
          ]

      ports_at : (m : ℕ) → (far_of (devices ports (set xs n (Some f)) passed) m).tables.ports ≡ (far_of (devices ports xs passed) m).tables.ports
      ports_at m =
          elim (cases_eq m n) [
            | inl is ↦ rw (is, get_set xs n (Some f) within, at) ports_same
            | inr ne ↦ rw (get_set_other xs n m (Some f) ne) refl
          ]

-- there is one
pub one_there : (d : Devices) (n : ℕ) → has_extender d n ≡ true → (f : Fields) × (slice_get d.extenders n ≡ Some (Some f))
one_there d n is = by_get (slice_get d.extenders n) is
  where
    by_get : (x : Option (Option Fields)) → is_there x ≡ true → (f : Fields) × (x ≡ Some (Some f))
    by_get (Some (Some f)) h = (f, refl)
    by_get (Some None) h = absurd (false≢true h)
    by_get None h = absurd (false≢true h)

pub none_there : (d : Devices) (n : ℕ) → has_extender d n ≡ true → slice_get d.extenders n ≡ Some None → ⊥
none_there d n is none = let no : false ≡ true = sym (ap is_there none) ∙ is in false≢true no

pub far_at : (d : Devices) (n : ℕ) (f : Fields) → slice_get d.extenders n ≡ Some (Some f) → far_of d n ≡ rested d.passed (state_of f)
far_at d n f at = ap (λ x. rested d.passed (state_at x n (slice_index d.ports n))) at

-- ---- the one that was read
read_there : (xs : List (Option Fields)) (n : ℕ) (e g : Option Fields) → is_there (slice_get xs n) ≡ true → get_or xs n e ≡ g → (f : Fields) × ((slice_get xs n ≡ Some (Some f)) × (g ≡ Some f))
read_there [] n e g there is = absurd (false≢true there)
read_there (Some f ∷ xs) zero e g there is = (f, (refl, sym is))
read_there (None ∷ xs) zero e g there is = absurd (false≢true there)
read_there (x ∷ xs) (suc n) e g there is = read_there xs n e g there is

module _ (ports : List ℕ) (xs : List (Option Fields)) (passed : ℕ) (d : Devices) (n : ℕ) (e x : Option Fields)
    (view : devices ports xs passed ≡ d) (there : has_extender d n ≡ true) (is : x ≡ get_or xs n e) where
  read_one : (f : Fields) × ((slice_get xs n ≡ Some (Some f)) × (x ≡ Some f))
  read_one = read_there xs n e x (ap (λ (each : Devices). has_extender each n) view ∙ there) (sym is)

  pub found : (f : Fields) → x ≡ Some f → slice_get xs n ≡ Some (Some f)
  found f same = by_read read_one
    where
      by_read : (g : Fields) × ((slice_get xs n ≡ Some (Some g)) × (x ≡ Some g)) → slice_get xs n ≡ Some (Some f)
      by_read (g, (at, one)) = let e : Some g ≡ Some f = sym one ∙ same in at ∙ ap Some e

  pub not_none : x ≡ None → ⊥
  not_none none = by_read read_one
    where
      by_read : (g : Fields) × ((slice_get xs n ≡ Some (Some g)) × (x ≡ Some g)) → ⊥
      by_read (g, (at, one)) = let e : Some g ≡ None = sym one ∙ none in absurd cc

  pub far_found : (f : Fields) → x ≡ Some f → far_of d n ≡ rested passed (state_of f)
  far_found f same = ap (λ (each : Devices). far_of each n) (sym view) ∙ far_at (devices ports xs passed) n f (found f same)

  pub tables_found : (f : Fields) → x ≡ Some f → (far_of d n).tables ≡ (state_of f).tables
  tables_found f same = ap (λ (s : ExtenderState). s.tables) (far_found f same) ∙ same_tables passed (state_of f)

  pub same_found : (f g : Fields) → x ≡ Some g → (rested passed (state_of f)).tables.ports ≡ (rested passed (state_of g)).tables.ports →
      AreSame d (devices ports (set xs n (Some f)) passed)
  same_found f g same kept =
      subst (λ (each : Devices). AreSame each (devices ports (set xs n (Some f)) passed)) view (same_set ports xs passed n f g (found g same) kept)

  -- it has made a step
  pub far_after : (f g : Fields) (step : ExtenderState → ExtenderState) → x ≡ Some g → rested passed (state_of f) ≡ step (rested passed (state_of g)) →
      far_of (devices ports (set xs n (Some f)) passed) ≡ at n (step (far_of d n)) (far_of d)
  far_after f g step same is =
      far_set ports xs passed n f (get_within xs n (Some g) (found g same))
      ∙ (ap (λ (s : ExtenderState). at n s (far_of (devices ports xs passed))) (is ∙ ap step (sym (far_found g same)))
      ∙ ap (λ (each : Devices). at n (step (far_of d n)) (far_of each)) view)

  -- and it is noted whether it sends, and whether it rests
  pub noted_after : (f g : Fields) (sending waiting sending_now waiting_now : ℕ) (idle rest : Bool) → x ≡ Some g → AreNoted xs sending waiting passed →
      ((k : ℕ) → number_in sending_now k ≡ (if k == n then (if not idle then 1 else 0) else number_in sending k)) →
      ((k : ℕ) → number_in waiting_now k ≡ (if k == n then (if not rest then 1 else 0) else number_in waiting k)) →
      (IsTrue idle ↔ (f.ecp.sending ≡ None)) → rest ≡ rests (state_of f) → AreNoted (set xs n (Some f)) sending_now waiting_now passed
  noted_after f g sending waiting sending_now waiting_now idle rest same noted sends wakes quiet is =
      record {
        few = length-set xs n (Some f) ∙ noted.few;
        noted = λ k. noted_at k;
        waits = λ k. waits k;
        low = noted.low;
      }
    where
      mark : Bool → ℕ
      mark b = if not b then 1 else 0

      placed : slice_get (set xs n (Some f)) n ≡ Some (Some f)
      placed = get_set xs n (Some f) (get_within xs n (Some g) (found g same))

      here : (b : Bool) → (IsTrue b ↔ (f.ecp.sending ≡ None)) → (mark b ≡ 0) ↔ (f.ecp.sending ≡ None)
      here true q = (λ e. q.0 refl, λ e. refl)
      here false q = (λ e. absurd (omega (arith, e)), λ e. absurd (false≢true (q.1 e)))

      noted_at : (k : ℕ) → (number_in sending_now k ≡ 0) ↔ (sent_at (slice_get (set xs n (Some f)) k) ≡ None)
      noted_at k =
          elim (cases_eq k n) [
            | inl at ↦
                let bit : number_in sending_now n ≡ mark idle = rw (at, eq-eqb n n refl) at (sends k) in
                rw (at, placed, bit) (here idle quiet)
            | inr ne ↦
                let bit : number_in sending_now k ≡ number_in sending k = rw (ne_eqb k n ne) at (sends k) in
                rw (get_set_other xs n k (Some f) ne, bit) (noted.noted k)
          ]

      marked : (b : Bool) → mark b ≡ (if b then 0 else 1)
      marked true = refl
      marked false = refl

      waits : (k : ℕ) → number_in waiting_now k ≡ waits_at (slice_get (set xs n (Some f)) k)
      waits k =
          elim (cases_eq k n) [
            | inl at ↦
                let bit : number_in waiting_now n ≡ mark rest = rw (at, eq-eqb n n refl) at (wakes k) in
                rw (at, placed) (bit ∙ marked rest ∙ ap (λ (b : Bool). if b then 0 else 1) is)
            | inr ne ↦
                let bit : number_in waiting_now k ≡ number_in waiting k = rw (ne_eqb k n ne) at (wakes k) in
                rw (get_set_other xs n k (Some f) ne) (bit ∙ noted.waits k)
          ]

  -- its state is as before
  pub noted_same : (f g : Fields) (sending waiting : ℕ) → x ≡ Some g → AreNoted xs sending waiting passed → state_of f ≡ state_of g → AreNoted (set xs n (Some f)) sending waiting passed
  noted_same f g sending waiting same noted is =
      record {
        few = length-set xs n (Some f) ∙ noted.few;
        noted = λ k. noted_at k;
        waits = λ k. waits k;
        low = noted.low;
      }
    where
      placed : slice_get (set xs n (Some f)) n ≡ Some (Some f)
      placed = get_set xs n (Some f) (get_within xs n (Some g) (found g same))

      sends : sent_at (slice_get (set xs n (Some f)) n) ≡ sent_at (slice_get xs n)
      sends = ap sent_at placed ∙ ap (λ (s : ExtenderState). s.ecp.sending) is ∙ sym (ap sent_at (found g same))

      waits_so : waits_at (slice_get (set xs n (Some f)) n) ≡ waits_at (slice_get xs n)
      waits_so = ap waits_at placed ∙ ap (λ (s : ExtenderState). if rests s then 0 else 1) is ∙ sym (ap waits_at (found g same))

      noted_at : (k : ℕ) → (number_in sending k ≡ 0) ↔ (sent_at (slice_get (set xs n (Some f)) k) ≡ None)
      noted_at k =
          elim (cases_eq k n) [
            | inl at ↦ rw (at, sends) (noted.noted n)
            | inr ne ↦ rw (get_set_other xs n k (Some f) ne) (noted.noted k)
          ]

      waits : (k : ℕ) → number_in waiting k ≡ waits_at (slice_get (set xs n (Some f)) k)
      waits k =
          elim (cases_eq k n) [
            | inl at ↦ rw (at, waits_so) (noted.waits n)
            | inr ne ↦ rw (get_set_other xs n k (Some f) ne) (noted.waits k)
          ]

-- ---- those that rest
-- one beat more has passed at them
more_passed : (passed : ℕ) (s : ExtenderState) → rested ((passed + 1) % 16) s ≡ if_rests (rested passed s)
more_passed passed s =
    elim (cases_Bool (rests s)) [
      | inl e ↦ rw (rests_rested passed s, e) (one_more passed s e)
      | inr e ↦ rw (rests_rested passed s, e) (awake_is ((passed + 1) % 16) s e ∙ sym (awake_is passed s e))
    ]

pub all_passed : (ports : List ℕ) (xs : List (Option Fields)) (passed n : ℕ) → far_of (devices ports xs ((passed + 1) % 16)) n ≡ if_rests (far_of (devices ports xs passed) n)
all_passed ports xs passed n = more_passed passed (state_at (slice_get xs n) n (slice_index ports n))

pub same_passed : (ports : List ℕ) (xs : List (Option Fields)) (old new : ℕ) → AreSame (devices ports xs old) (devices ports xs new)
same_passed ports xs old new =
    record {
      there = λ n. refl;
      ports = λ n.
          let s = state_at (slice_get xs n) n (slice_index ports n) in
          ap (λ (t : ExtenderTables). t.ports) (same_tables new s ∙ sym (same_tables old s));
    }

-- those that wait are there and don't rest
pub waiting_is : (ports : List ℕ) (xs : List (Option Fields)) (sending waiting passed : ℕ) → AreNoted xs sending waiting passed → (n : ℕ) →
    number_in waiting n ≡ (if has_extender (devices ports xs passed) n && not (rests (far_of (devices ports xs passed) n)) then 1 else 0)
waiting_is ports xs sending waiting passed noted n = noted.waits n ∙ by_get (slice_get xs n)
  where
    other : Bool → ℕ
    other b = if b then 0 else 1

    turned : (b : Bool) → other b ≡ (if not b then 1 else 0)
    turned true = refl
    turned false = refl

    by_get : (x : Option (Option Fields)) → waits_at x ≡ (if is_there x && not (rests (rested passed (state_at x n (slice_index ports n)))) then 1 else 0)
    by_get (Some (Some f)) = rw (rests_rested passed (state_of f)) (turned (rests (state_of f)))
    by_get (Some None) = refl
    by_get None = refl

-- what it sends is as it was
pub quiet_is : (passed n ports : ℕ) (x : Option (Option Fields)) → (rested passed (state_at x n ports)).ecp.sending ≡ sent_at x
quiet_is passed n ports (Some (Some f)) = ap (λ (e : State). e.sending) (same_end passed (state_of f))
quiet_is passed n ports (Some None) = ap (λ (e : State). e.sending) (same_end passed (at_power_on n ports))
quiet_is passed n ports None = ap (λ (e : State). e.sending) (same_end passed (at_power_on n ports))

-- ---- at power-on
abbrev pub ArePoweredOn : List ℕ → List (Option Fields) → Type 0
ArePoweredOn ports xs = (k : ℕ) (x : Option Fields) → slice_get xs k ≡ Some x → IsPoweredOn k (slice_index ports k) x

-- the bridge is none
pub powered_first : (ports : List ℕ) → ArePoweredOn ports (None ∷ [])
powered_first ports zero x e = (let is : None ≡ x = cc in subst (IsPoweredOn 0 (slice_index ports 0)) is refl)
powered_first ports (suc k) x e = absurd cc

get_push : {A : Type 0} (xs : List A) (y : A) (k : ℕ) (x : A) → slice_get (xs ++ y ∷ []) k ≡ Some x → (slice_get xs k ≡ Some x) ⊎ ((k ≡ length xs) × (y ≡ x))
get_push [] y zero x e = inr (refl, (let is : y ≡ x = cc in is))
get_push [] y (suc k) x e = absurd cc
get_push (z ∷ zs) y zero x e = inl e
get_push (z ∷ zs) y (suc k) x e =
    elim (get_push zs y k x e) [
      | inl h ↦ inl h
      | inr h ↦ inr (ap suc h.0, h.1)
    ]

pub powered_more : (ports : List ℕ) (xs : List (Option Fields)) (y : Option Fields) → ArePoweredOn ports xs → IsPoweredOn (length xs) (slice_index ports (length xs)) y → ArePoweredOn ports (xs ++ y ∷ [])
powered_more ports xs y before here k x e =
    elim (get_push xs y k x e) [
      | inl h ↦ before k x h
      | inr h ↦ subst (λ z. IsPoweredOn k (slice_index ports k) z) h.1 (subst (λ (m : ℕ). IsPoweredOn m (slice_index ports m) y) (sym h.0) here)
    ]

fresh_is : (passed n ports : ℕ) → rested passed (at_power_on n ports) ≡ at_power_on n ports
fresh_is passed n ports = awake_is passed (at_power_on n ports) refl

powered_state : (passed n ports : ℕ) (x : Option Fields) → IsPoweredOn n ports x → rested passed (state_at (Some x) n ports) ≡ at_power_on n ports
powered_state passed n ports None is = fresh_is passed n ports
powered_state passed n ports (Some f) is = ap (rested passed) is.1 ∙ fresh_is passed n ports

pub powered_far : (ports : List ℕ) (xs : List (Option Fields)) (passed : ℕ) → ArePoweredOn ports xs → (n : ℕ) → far_of (devices ports xs passed) n ≡ at_power_on n (slice_index ports n)
powered_far ports xs passed all n = by_get (slice_get xs n) refl
  where
    by_get : (x : Option (Option Fields)) → slice_get xs n ≡ x → rested passed (state_at x n (slice_index ports n)) ≡ at_power_on n (slice_index ports n)
    by_get None e = fresh_is passed n (slice_index ports n)
    by_get (Some x) e = powered_state passed n (slice_index ports n) x (all n x e)

pub powered_fars : (t : Shape) (ports : List ℕ) (xs : List (Option Fields)) (passed : ℕ) → ports ≡ t.ports → ArePoweredOn ports xs → far_of (devices ports xs passed) ≡ first_far t
powered_fars t ports xs passed same all = fun_ext (λ n. powered_far ports xs passed all n ∙ ap (λ (each : List ℕ). at_power_on n (slice_index each n)) same)

-- nothing is sent, and each of them waits
powered_quiet : (n ports : ℕ) (x : Option Fields) → IsPoweredOn n ports x → sent_at (Some x) ≡ None
powered_quiet n ports None is = refl
powered_quiet n ports (Some f) is = ap (λ (s : ExtenderState). s.ecp.sending) is.1

powered_waits : (n ports : ℕ) (x : Option Fields) → IsPoweredOn n ports x → (if is_some x then 1 else 0) ≡ waits_at (Some x)
powered_waits n ports None is = refl
powered_waits n ports (Some f) is = sym (ap (λ (s : ExtenderState). if rests s then 0 else 1) is.1)

-- those that wait of those made so far
abbrev pub AreWaiting : List (Option Fields) → ℕ → Type 0
AreWaiting xs waiting = (n : ℕ) → number_in waiting n ≡ waits_at (slice_get xs n)

pub waiting_first : AreWaiting (None ∷ []) 0
waiting_first n = none_in_0 n ∙ sym (by_place n)
  where
    by_place : (n : ℕ) → waits_at (slice_get (None ∷ []) n) ≡ 0
    by_place zero = refl
    by_place (suc n) = refl

get_new : {A : Type 0} (xs : List A) (y : A) → slice_get (xs ++ y ∷ []) (length xs) ≡ Some y
get_new [] y = refl
get_new (x ∷ xs) y = get_new xs y

get_old : {A : Type 0} (xs : List A) (y : A) (k : ℕ) → k ≢ length xs → slice_get (xs ++ y ∷ []) k ≡ slice_get xs k
get_old [] y zero other = absurd (other refl)
get_old [] y (suc k) other = refl
get_old (x ∷ xs) y zero other = refl
get_old (x ∷ xs) y (suc k) other = get_old xs y k (λ e. other (ap suc e))

pub waiting_more : (ports n : ℕ) (xs : List (Option Fields)) (x : Option Fields) (waiting now : ℕ) (known : Bool) → length xs ≡ n → IsPoweredOn n ports x → known ≡ is_some x →
    ((k : ℕ) → number_in now k ≡ (if k == n then (if known then 1 else 0) else number_in waiting k)) → AreWaiting xs waiting → AreWaiting (xs ++ x ∷ []) now
waiting_more ports n xs x waiting now known long is same bits before k =
    elim (cases_eq k n) [
      | inl e ↦
          let bit : number_in now n ≡ (if known then 1 else 0) = rw (e, eq-eqb n n refl) at (bits k) in
          let new : slice_get (xs ++ x ∷ []) n ≡ Some x = rw long at (get_new xs x) in
          rw (e, new) (bit ∙ ap (λ (b : Bool). if b then 1 else 0) same ∙ powered_waits n ports x is)
      | inr ne ↦
          let bit : number_in now k ≡ number_in waiting k = rw (ne_eqb k n ne) at (bits k) in
          rw (get_old xs x k (λ e. ne (e ∙ long))) (bit ∙ before k)
    ]

pub powered_noted : (ports : List ℕ) (xs : List (Option Fields)) (waiting : ℕ) → length xs ≡ 65 → ArePoweredOn ports xs → AreWaiting xs waiting → AreNoted xs 0 waiting 0
powered_noted ports xs waiting long all waits =
    record { few = long; noted = λ n. (λ e. by_get n (slice_get xs n) refl, λ e. none_in_0 n); waits = waits; low = omega arith }
  where
    by_get : (n : ℕ) (x : Option (Option Fields)) → slice_get xs n ≡ x → sent_at x ≡ None
    by_get n None e = refl
    by_get n (Some x) e = powered_quiet n (slice_index ports n) x (all n x e)

get_some : {A : Type 0} (xs : List A) (n : ℕ) → n < length xs → (x : A) × (slice_get xs n ≡ Some x)
get_some [] n within = absurd (omega arith)
get_some (y ∷ ys) zero within = (y, refl)
get_some (y ∷ ys) (suc n) within = get_some ys n (omega arith)

powered_there : (n ports : ℕ) (x : Option Fields) → (nat_lt 0 n && nat_lt 0 ports) ≡ true → IsPoweredOn n ports x → is_there (Some x) ≡ true
powered_there n ports (Some f) is on = refl
powered_there n ports None is on =
    let parts = and_parts (nat_lt 0 n) (nat_lt 0 ports) is in
    let some : 0 < n = ltb-true 0 n parts.0 in
    let many : 0 < ports = ltb-true 0 ports parts.1 in
    absurd (false≢true (rw (ne_eqb n 0 (omega arith), ne_eqb ports 0 (omega arith)) at on))

pub powered_all : (t : Shape) (ports : List ℕ) (xs : List (Option Fields)) → ports ≡ t.ports → ArePoweredOn ports xs → length t.ports ≤ length xs → (n : ℕ) → is_extender t n ≡ true → has_extender (devices ports xs 0) n ≡ true
powered_all t ports xs same all long n is =
    elim (cases_lt n (length xs)) [
      | inl l ↦
          let g = get_some xs n l in
          let on : IsPoweredOn n (slice_index t.ports n) g.0 = subst (λ (each : List ℕ). IsPoweredOn n (slice_index each n) g.0) same (all n g.0 g.1) in
          rw g.1 (powered_there n (slice_index t.ports n) g.0 is on)
      | inr past ↦
          let none = get_or_past t.ports n 0 (omega arith) in
          let some : 0 < slice_index t.ports n = ltb-true 0 (slice_index t.ports n) (and_parts (nat_lt 0 n) (nat_lt 0 (slice_index t.ports n)) is).1 in
          absurd (omega (arith, none, some))
    ]

powered_extends : (n ports : ℕ) (x : Option (Option Fields)) → ((y : Option Fields) → x ≡ Some y → IsPoweredOn n ports y) → is_there x ≡ true → (nat_lt 0 n && nat_lt 0 ports) ≡ true
powered_extends n ports (Some (Some f)) on there =
    let e : (n == 0 || ports == 0) ≡ false = (on (Some f) refl).0 in
    let some : n ≢ 0 = λ none. false≢true (sym (rw none at e)) in
    let many : ports ≢ 0 = λ none. false≢true (sym (rw (ne_eqb n 0 some, none) at e)) in
    and_from _ _ (lt-ltb 0 n (omega (arith, some))) (lt-ltb 0 ports (omega (arith, many)))
powered_extends n ports (Some None) on there = absurd (false≢true there)
powered_extends n ports None on there = absurd (false≢true there)

pub powered_only : (t : Shape) (ports : List ℕ) (xs : List (Option Fields)) → ports ≡ t.ports → ArePoweredOn ports xs → (n : ℕ) → has_extender (devices ports xs 0) n ≡ true → is_extender t n ≡ true
powered_only t ports xs same all n there =
    subst (λ (each : List ℕ). (nat_lt 0 n && nat_lt 0 (slice_index each n)) ≡ true) same (powered_extends n (slice_index ports n) (slice_get xs n) (λ x e. all n x e) there)
