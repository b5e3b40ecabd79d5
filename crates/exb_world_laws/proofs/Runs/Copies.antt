-- What has left is copies of arrivals that were given.
use Rattle.std.proofs.Common.{◌≡◌, ℕ, zero, suc, ◌≤◌, ◌==◌, ◌++◌, Bool, true, false, cond, List, [], ◌∷◌, length, Option, Some, None, slice_get, refl, ap, sym, subst, arith, inl, inr}
use Rattle.std.specs.Prelude.{Contains}
use Rattle.std.proofs.lemmas.Bool.{cases_Bool, and_parts, eq-eqb}
use Rattle.exb_model.specs.declared.event.Event.{Event}
use Rattle.exb_model.specs.declared.event.Event.TheVariants as event
use Rattle.exb_model.specs.declared.vlan.Kind.{Kind}
use Rattle.exb_model.specs.Configuration.{Bridge}
use Rattle.exb_model.specs.EagerHistory.{is_relayed_kind}
use Rattle.exb_model.specs.FlatBridge.{Sent, sent_as, sent_by, flat}
use Rattle.exb_model.specs.Frames.{kind_of}
use Rattle.exb_model.specs.History.{Basis, History, bridge_after}
use Rattle.exb_model.specs.declared.arrival.Arrival.{Arrival}
use Rattle.exb_model.specs.Learning.{Look, passes, learned}
use Rattle.exb_model.specs.LegalHistory.{EachEvent}
use Rattle.exb_model.specs.Lists.{numbered}
use Rattle.exb_model.specs.Targets.{target}
use Rattle.exb_model.specs.Tree.{Shape}
use Rattle.exb_world_spec.specs.Worlds.{Left, left_at}
use Rattle.exb_world_spec.specs.Runs.Sessions.{Each}
use Rattle.exb_world_spec.proofs.Bytes.{egress_short, relayed_short}
use Rattle.exb_world_spec.proofs.LinkFrames.{each_append}
use Rattle.exb_flight.specs.Items as items
use Rattle.exb_world_laws.specs.WorldInput.{Given, Came, Told, arrivals_of, arrivals_at, records_at}
use Rattle.exb_world_laws.specs.WorldInvariant.{IsSurely}
use Rattle.exb_world_laws.specs.OneBridge.{IsOfArrival}

-- at the moment of an arrival that was given, and short
pub record IsCopy (arrivals : List Arrival) (moment : ℕ) (bytes : List ℕ) : Type 0 where
  pub arrival : Arrival
  pub of_it : Contains arrivals arrival
  pub moment_is : moment ≡ arrival.moment
  pub short : length bytes ≤ 9220

abbrev pub IsSentCopy : List Arrival → Sent → Type 0
IsSentCopy arrivals x = IsCopy arrivals x.0 x.1

-- ---- the arrival of a record
record IsRecord (arrivals : List Arrival) (x : ℕ × List ℕ) : Type 0 where
  arrival : Arrival
  of_it : Contains arrivals arrival
  moment_is : x.0 ≡ arrival.moment

later : (a : Arrival) (arrivals : List Arrival) (x : ℕ × List ℕ) → IsRecord arrivals x → IsRecord (a ∷ arrivals) x
later a arrivals x k = record { arrival = k.arrival; of_it = (let c = k.of_it in (suc c.0, (let h = c.1 in omega (arith, h)), c.2)); moment_is = k.moment_is }

record_in : (p : ℕ) (g : List Given) (k : ℕ) (x : ℕ × List ℕ) → slice_get (records_at g p) k ≡ Some x → IsRecord (arrivals_of g) x
record_in p [] k x e = absurd (none_some e)
  where
    none_some : None ≡ Some x → ⊥
    none_some z = cc
record_in p (Told c ∷ g) k x e = record_in p g k x e
record_in p (Came a ∷ g) k x e =
    elim (cases_Bool (a.port == p)) [
      | inr other ↦ later a (arrivals_of g) x (record_in p g k x (rw other at e))
      | inl same ↦ by_place k (rw same at e) (λ j z. record_in p g j x z)
    ]
  where
    by_place : (k : ℕ) → slice_get ((a.moment, a.bytes) ∷ records_at g p) k ≡ Some x → ((j : ℕ) → slice_get (records_at g p) j ≡ Some x → IsRecord (arrivals_of g) x) → IsRecord (a ∷ arrivals_of g) x
    by_place zero z rest = record { arrival = a; of_it = (0, omega arith, refl); moment_is = ap (λ (y : ℕ × List ℕ). y.0) (sym (some_same z)) }
      where
        some_same : Some (a.moment, a.bytes) ≡ Some x → (a.moment, a.bytes) ≡ x
        some_same q = cc
    by_place (suc j) z rest = later a (arrivals_of g) x (rest j z)

record_of : (p : ℕ) (g : List Given) (n : ℕ) (x : ℕ × List ℕ) → numbered (records_at g p) n ≡ Some x → IsRecord (arrivals_of g) x
record_of p g zero x e = absurd (none_some e)
  where
    none_some : None ≡ Some x → ⊥
    none_some z = cc
record_of p g (suc k) x e = record_in p g k x e

-- ---- what the one bridge sends
module _ (t : Shape) (b : Bridge) (look : Look) (g : List Given) where
  relay_copies : (p n moment : ℕ) (f : List ℕ) (q : ℕ) → numbered (records_at g p) n ≡ Some (moment, f) → is_relayed_kind (kind_of f) ≡ true → Each (IsSentCopy (arrivals_of g)) (sent_by b look (event.Relay p n moment f) q)
  relay_copies p n moment f q found kind = by_options (passes b p f) (target b look p f q)
    where
      short : length f ≤ 9216
      short = relayed_short f kind

      by_options : (o : Option ℕ) (k : Option Kind) → Each (IsSentCopy (arrivals_of g)) (sent_as moment f o k)
      by_options None k = tt
      by_options (Some v) None = tt
      by_options (Some v) (Some k) =
          let its : IsRecord (arrivals_of g) (moment, f) = record_of p g n (moment, f) found in
          (record { arrival = its.arrival; of_it = its.of_it; moment_is = its.moment_is; short = (let s = short in let e = egress_short f k v in omega (arith, s, e)) }, tt)

module _ (t : Shape) (i : Basis) (g : List Given) where
  event_copies : (e : Event) (h : History) (q : ℕ) → IsOfArrival t g e → IsSurely i (λ p. arrivals_at p g) h e → Each (IsSentCopy (arrivals_of g)) (sent_by (bridge_after i h) (learned i h) e q)
  event_copies (event.Relay p n moment f) h q of sure = relay_copies t (bridge_after i h) (learned i h) g p n moment f q of.1 (and_parts ((bridge_after i h).present p) (is_relayed_kind (kind_of f)) sure).1
  event_copies (event.Ignored p n) h q of sure = tt
  event_copies (event.Tick seconds) h q of sure = tt
  event_copies (event.Commit n) h q of sure = tt
  event_copies (event.Refuse n x) h q of sure = tt
  event_copies (event.Up p) h q of sure = tt
  event_copies (event.NoUp p x) h q of sure = tt
  event_copies event.Settled h q of sure = tt

  pub flat_copies : (h : History) → items.Each (IsOfArrival t g) h → EachEvent (IsSurely i (λ p. arrivals_at p g)) h → (q : ℕ) → Each (IsSentCopy (arrivals_of g)) (flat i h q)
  unfolding flat
  flat_copies [] of sure q = tt
  flat_copies (e ∷ h) of sure q = each_append (IsSentCopy (arrivals_of g)) (flat i h q) (sent_by (bridge_after i h) (learned i h) e q) (flat_copies h of.1 sure.0 q) (event_copies e h q of.0 sure.1)

-- ---- what has left
pub each_front : {A : Type 0} (P : A → Type 0) (xs ys : List A) → Each P (xs ++ ys) → Each P xs
each_front P [] ys k = tt
each_front P (x ∷ xs) ys k = (k.0, each_front P xs ys k.1)

-- where what has left each of these ports has a property, so has each frame
pub left_each : (P : ℕ → List ℕ → Type 0) (R : ℕ → Type 0) (xs : List Left) → ((q : ℕ) → R q → Each (λ (x : Sent). P x.0 x.1) (left_at q xs)) → Each (λ (x : Left). R x.port) xs → Each (λ (x : Left). R x.port × P x.moment x.bytes) xs
left_each P R [] all at = tt
left_each P R (x ∷ xs) all at = ((at.0, first), left_each P R xs (λ q r. rest q (all q r)) at.1)
  where
    first : P x.moment x.bytes
    first = (subst (λ (c : Bool). Each (λ (y : Sent). P y.0 y.1) (cond c ((x.moment, x.bytes) ∷ left_at x.port xs) (left_at x.port xs))) (eq-eqb x.port x.port refl) (all x.port at.0)).0

    by_test : (q : ℕ) (c : Bool) → Each (λ (y : Sent). P y.0 y.1) (cond c ((x.moment, x.bytes) ∷ left_at q xs) (left_at q xs)) → Each (λ (y : Sent). P y.0 y.1) (left_at q xs)
    by_test q true k = k.1
    by_test q false k = k

    rest : (q : ℕ) → Each (λ (y : Sent). P y.0 y.1) (left_at q (x ∷ xs)) → Each (λ (y : Sent). P y.0 y.1) (left_at q xs)
    rest q k = by_test q (x.port == q) k
