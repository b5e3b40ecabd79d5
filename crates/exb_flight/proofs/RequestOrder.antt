-- A plan deletes a port last of all, lays nothing more for the channel of a cascade port once that is created, and creates no cascade port after another port.
use Rattle.std.proofs.Common.{◌≡◌, ◌≢◌, ℕ, zero, suc, ◌+◌, ◌*◌, ◌<◌, ◌≤◌, ◌&&◌, Bool, true, false, List, [], ◌∷◌, ◌++◌, map, Option, Some, None, filter, refl, sym, ◌∙◌, subst, ap, arith, inl, inr}
use Rattle.std.specs.Prelude.{flat_map, ⊤}
use Rattle.std.specs.List.{range_with_len}
use Rattle.std.proofs.lemmas.List.{append_assoc}
use Rattle.std.proofs.lemmas.Bool.{cases_Bool, ne_eqb}
use Rattle.exb_model.specs.declared.event.Cause.{Cause}
use Rattle.exb_model.specs.Tree.{Shape, by_depth, device, trunk, is_port, is_cascade, port_number}
use Rattle.exb_model.specs.Setup.{Limits}
use Rattle.exb_model.specs.Configuration.{Bridge, after}
use Rattle.exb_model.specs.declared.command.Command.TheVariants as command
use Rattle.exb_csp.specs.declared.group_rows.GroupRow.{GroupRow}
use Rattle.exb_csp.specs.declared.message.Request.{Request}
use Rattle.exb_csp.specs.declared.message.Request.TheVariants.{Open, PortCreate, PortDelete, Register, Unregister, RegisterMany, UnregisterMany}
use Rattle.exb_csp.specs.declared.ask_at.AskAt.{AskAt}
use Rattle.exb_control_spec.specs.declared.plan.row_action.RowAction.TheVariants.{Lay, Clear}
use Rattle.exb_control_spec.specs.declared.plan.change.Change.{Change}
use Rattle.exb_control_spec.specs.Plans.ChangeRequests.{ask, register, unregister, numbers_of, message, rows_at, asks_with, in_messages, group_asks, channel_rows, channel_ask, channel_asks, create_asks, delete_asks}
use Rattle.exb_control_spec.specs.Plans.HeldNumbers.{Held, Group, channel_in, or_zero}
use Rattle.exb_control_spec.specs.Plans.Differences.{goes_up, goes_down, gone_groups, refusal_between}
use Rattle.exb_control_spec.specs.Plans.Sets.{sets_of}
use Rattle.exb_control_spec.specs.Plans.Plans.{new_channel, own_channel, up_asks, down_asks, fresh_groups, prepare_of, cleanup_of, change_of, claimed}
use Rattle.exb_control_spec.specs.declared.job.Job.{Job}
use Rattle.exb_control_spec.specs.declared.job.Job.TheVariants as job
use Rattle.exb_control_spec.specs.Decisions.{Ready, outcome_by, outcome_between, cascades_of, channel_of, opening_asks, opening_change, decide}
use Rattle.exb_control_spec.proofs.Runs.NumbersInForce.{held_are_numbers}
use Rattle.exb_flight.specs.RequestOrder.{IsDelete, DeletesLast, lays, NoneLays, IsPlain, AllPlain, Completes, CreatesLast}

-- no request of a list is a deletion
abbrev NoDelete : List AskAt → Type 0
NoDelete [] = ⊤
NoDelete (a ∷ more) = (IsDelete a.request → ⊥) × NoDelete more

none_append : (xs ys : List AskAt) → NoDelete xs → NoDelete ys → NoDelete (xs ++ ys)
none_append [] ys a b = b
none_append (x ∷ xs) ys a b = (a.0, none_append xs ys a.1 b)

none_map : {X : Type 0} (f : X → AskAt) (xs : List X) → ((x : X) → IsDelete (f x).request → ⊥) → NoDelete (map f xs)
none_map f [] each = tt
none_map f (x ∷ xs) each = (each x, none_map f xs each)

none_flat : {X : Type 0} (f : X → List AskAt) (xs : List X) → ((x : X) → NoDelete (f x)) → NoDelete (flat_map f xs)
none_flat f [] each = tt
none_flat f (x ∷ xs) each = none_append (f x) (flat_map f xs) (each x) (none_flat f xs each)

last_after : (xs ys : List AskAt) → NoDelete xs → DeletesLast ys → DeletesLast (xs ++ ys)
last_after [] ys a b = b
last_after (x ∷ xs) ys a b = ((λ is. absurd (a.0 is)), last_after xs ys a.1 b)

unregister_none : (numbers : List ℕ) → IsDelete (unregister numbers) → ⊥
unregister_none [] d = d
unregister_none (n ∷ []) d = d
unregister_none (n ∷ m ∷ numbers) d = d

clears_none_delete : (t : Shape) (groups : List Group) → NoDelete (group_asks Clear t groups)
unfolding group_asks
clears_none_delete t groups =
    none_flat (λ n. asks_with Clear (rows_at t groups n) n) (by_depth t) (λ n.
    none_map (λ piece. ask n (message Clear piece)) (in_messages (rows_at t groups n)) (λ piece. unregister_none (numbers_of piece)))

delete_last : (t : Shape) (p c : ℕ) → DeletesLast (delete_asks t p c)
unfolding delete_asks
delete_last t p c =
    last_after (channel_asks Clear t p c) (ask (device p) (PortDelete (port_number p)) ∷ []) (none_map (channel_ask Clear c) (channel_rows t p) (λ row d. d)) ((λ d. refl), tt)

cleanup_last : (t : Shape) (old new : Bridge) (h : Held) → DeletesLast (cleanup_of t old new h)
unfolding cleanup_of
cleanup_last t old new h =
    last_after (group_asks Clear t (gone_groups t (sets_of t new) h)) (down_asks t (own_channel t h (goes_down t old new)) (goes_down t old new))
    (clears_none_delete t (gone_groups t (sets_of t new) h)) (by_down (goes_down t old new))
  where
    by_down : (o : Option ℕ) → DeletesLast (down_asks t (own_channel t h o) o)
    by_down None = tt
    by_down (Some p) = delete_last t p (own_channel t h (Some p))

between_last : (t : Shape) (l : Limits) (old new : Bridge) (h : Held) (x : Change) (held : Held) → outcome_between t l old new h ≡ Ready x held → DeletesLast x.cleanup
unfolding change_of
between_last t l old new h x held e = by_cause (refusal_between t l old new) e
  where
    by_cause : (o : Option Cause) → outcome_by o (change_of t l old new h) (claimed t l old new h) ≡ Ready x held → DeletesLast x.cleanup
    by_cause (Some cause) f = absurd (cc)
    by_cause None f = (let same : change_of t l old new h ≡ x = cc in subst (λ (y : Change). DeletesLast y.cleanup) same (cleanup_last t old new h))

-- of each change that is decided
pub plans_delete_last : (t : Shape) (l : Limits) (b : Bridge) (h : Held) (j : Job) (x : Change) (held : Held) → decide t l b h j ≡ Ready x held → DeletesLast x.cleanup
unfolding decide
plans_delete_last t l b h (job.Opening n) x held e = (let same : opening_change t n h ≡ x = cc in subst (λ (y : Change). DeletesLast y.cleanup) same tt)
plans_delete_last t l b h (job.AutomaticUp p) x held e = between_last t l b (after (command.Up p) b) h x held e
plans_delete_last t l b h (job.Ordered n c) x held e = between_last t l b (after c b) h x held e

-- ---- channels of cascade ports
plain_completes : (r : Request) (more : List AskAt) → IsPlain r → AllPlain more → Completes r more
plain_completes Open more p m = tt
plain_completes (PortCreate port true channel) more p m = absurd p
plain_completes (PortCreate port false channel) more p m = m
plain_completes (PortDelete port) more p m = tt
plain_completes (Register ecid mask) more p m = tt
plain_completes (Unregister ecid) more p m = tt
plain_completes (RegisterMany rows) more p m = tt
plain_completes (UnregisterMany ecids) more p m = tt

plain_append : (xs ys : List AskAt) → AllPlain xs → AllPlain ys → AllPlain (xs ++ ys)
plain_append [] ys a b = b
plain_append (x ∷ xs) ys a b = (a.0, plain_append xs ys a.1 b)

plain_map : {X : Type 0} (f : X → AskAt) (xs : List X) → ((x : X) → IsPlain (f x).request) → AllPlain (map f xs)
plain_map f [] each = tt
plain_map f (x ∷ xs) each = (each x, plain_map f xs each)

plain_flat : {X : Type 0} (f : X → List AskAt) (xs : List X) → ((x : X) → AllPlain (f x)) → AllPlain (flat_map f xs)
plain_flat f [] each = tt
plain_flat f (x ∷ xs) each = plain_append (f x) (flat_map f xs) (each x) (plain_flat f xs each)

-- a row before other requests
last_behind : {X : Type 0} (f : X → AskAt) (rows : List X) (ys : List AskAt) → ((x : X) (more : List AskAt) → Completes (f x).request more) → CreatesLast ys → CreatesLast (map f rows ++ ys)
last_behind f [] ys each b = b
last_behind f (x ∷ rows) ys each b = (each x (map f rows ++ ys), last_behind f rows ys each b)

all_plain : (xs : List AskAt) → AllPlain xs → CreatesLast xs
all_plain [] a = tt
all_plain (x ∷ xs) a = (plain_completes x.request xs a.0 a.1, all_plain xs a.1)

register_plain : (rows : List GroupRow) → IsPlain (register rows)
register_plain [] = tt
register_plain (row ∷ []) = tt
register_plain (row ∷ other ∷ rows) = tt

lays_plain : (t : Shape) (groups : List Group) → AllPlain (group_asks Lay t groups)
unfolding group_asks
lays_plain t groups = plain_flat (λ n. asks_with Lay (rows_at t groups n) n) (by_depth t) (λ n. plain_map (λ piece. ask n (message Lay piece)) (in_messages (rows_at t groups n)) register_plain)

up_plain : (t : Shape) (c : ℕ) (o : Option ℕ) → AllPlain (up_asks t c o)
unfolding create_asks
up_plain t c None = tt
up_plain t c (Some p) =
    plain_append (channel_asks Lay t p c) (ask (device p) (PortCreate (port_number p) false c) ∷ []) (plain_map (channel_ask Lay c) (channel_rows t p) (λ row. tt)) (tt, tt)

prepare_last : (t : Shape) (l : Limits) (old new : Bridge) (h : Held) → CreatesLast (prepare_of t l old new h)
unfolding prepare_of
prepare_last t l old new h =
    all_plain (prepare_of t l old new h)
    (plain_append (up_asks t (new_channel t l h (goes_up t old new)) (goes_up t old new)) (group_asks Lay t (fresh_groups t l old new h))
    (up_plain t (new_channel t l h (goes_up t old new)) (goes_up t old new)) (lays_plain t (fresh_groups t l old new h)))

-- ---- openings
none_lays_append : (e : ℕ) (xs ys : List AskAt) → NoneLays e xs → NoneLays e ys → NoneLays e (xs ++ ys)
none_lays_append e [] ys a b = b
none_lays_append e (x ∷ xs) ys a b = (a.0, none_lays_append e xs ys a.1 b)

none_lays_map : {X : Type 0} (e : ℕ) (f : X → AskAt) (xs : List X) → ((x : X) → lays (f x).request e ≡ false) → NoneLays e (map f xs)
none_lays_map e f [] each = tt
none_lays_map e f (x ∷ xs) each = (each x, none_lays_map e f xs each)

-- the requests of another channel
other_channel : (t : Shape) (q c e : ℕ) → c ≢ e → NoneLays e (create_asks t q true c)
unfolding create_asks
other_channel t q c e other =
    none_lays_append e (channel_asks Lay t q c) (ask (device q) (PortCreate (port_number q) true c) ∷ []) (none_lays_map e (channel_ask Lay c) (channel_rows t q) (λ row. ne_eqb c e other)) (ne_eqb c e other, tt)

-- two ports of an extender have no channel together
apart : (t : Shape) (h : Held) (p q : ℕ) → p ≢ q → device p ≡ device q → 0 < channel_of t h p → channel_of t h q ≢ channel_of t h p
apart t h p q other same some e = other (by_found (channel_in h (trunk t (device p)) p) (channel_in h (trunk t (device q)) q) refl refl (some) e)
  where
    by_found : (a b : Option ℕ) → channel_in h (trunk t (device p)) p ≡ a → channel_in h (trunk t (device q)) q ≡ b → 0 < or_zero (channel_in h (trunk t (device p)) p) →
        or_zero (channel_in h (trunk t (device q)) q) ≡ or_zero (channel_in h (trunk t (device p)) p) → p ≡ q
    by_found None b f g z same_number = absurd (let n : or_zero (channel_in h (trunk t (device p)) p) ≡ 0 = ap or_zero f in omega (arith, n, z))
    by_found (Some a) None f g z same_number = absurd (let n : or_zero (channel_in h (trunk t (device q)) q) ≡ 0 = ap or_zero g in omega (arith, n, same_number, z))
    by_found (Some a) (Some b) f g z same_number =
        let number : b ≡ a = sym (ap or_zero g) ∙ (same_number ∙ ap or_zero f) in
        let home : trunk t (device q) ≡ trunk t (device p) = ap (trunk t) (sym same) in
        (held_are_numbers h).alone (trunk t (device p)) p q a f
        (subst (λ (m : ℕ). channel_in h m q ≡ Some a) home (g ∙ ap (λ (x : ℕ). Some x) number))

module _ (t : Shape) (n : ℕ) (h : Held) (test : ℕ → Bool) where
  creates : ℕ → List AskAt
  creates q = create_asks t q true (channel_of t h q)

  none_later : (e a len : ℕ) → ((q : ℕ) → a ≤ q → q < a + len → channel_of t h q ≢ e) → NoneLays e (flat_map creates (filter test (range_with_len a len)))
  unfolding creates
  none_later e a zero apart_all = tt
  none_later e a (suc len) apart_all =
      elim (cases_Bool (test a)) [
        | inr x ↦ rw x (none_later e (a + 1) len (λ q l g. apart_all q (omega (arith, l)) (omega (arith, g))))
        | inl x ↦ rw x (none_lays_append e (creates a) (flat_map creates (filter test (range_with_len (a + 1) len)))
            (other_channel t a (channel_of t h a) e (apart_all a (omega arith) (omega arith)))
            (none_later e (a + 1) len (λ q l g. apart_all q (omega (arith, l)) (omega (arith, g)))))
      ]

  -- once a port is created, what follows is for other channels
  created_last : (q : ℕ) (more : List AskAt) → (0 < channel_of t h q → NoneLays (channel_of t h q) more) → CreatesLast more → CreatesLast (creates q ++ more)
  unfolding creates create_asks
  created_last q more none rest =
      subst CreatesLast (sym (append_assoc (channel_asks Lay t q (channel_of t h q)) (ask (device q) (PortCreate (port_number q) true (channel_of t h q)) ∷ []) more))
      (last_behind (channel_ask Lay (channel_of t h q)) (channel_rows t q) (ask (device q) (PortCreate (port_number q) true (channel_of t h q)) ∷ more) (λ row later. tt) (none, rest))

  all_last : (a len : ℕ) → 64 * n ≤ a → a + len ≤ 64 * n + 64 → CreatesLast (flat_map creates (filter test (range_with_len a len)))
  all_last a zero from to = tt
  all_last a (suc len) from to =
      elim (cases_Bool (test a)) [
        | inr x ↦ rw x (all_last (a + 1) len (omega (arith, from)) (omega (arith, to)))
        | inl x ↦
            rw x (created_last a (flat_map creates (filter test (range_with_len (a + 1) len)))
            (λ some. none_later (channel_of t h a) (a + 1) len (λ q l g. apart t h a q (λ e. absurd (omega (arith, e, l))) (one_device a q (omega (arith, from)) (omega (arith, to)) (omega (arith, from, l)) (omega (arith, to, g))) some))
            (all_last (a + 1) len (omega (arith, from)) (omega (arith, to))))
      ]
    where
      one_device : (p q : ℕ) → 64 * n ≤ p → p < 64 * n + 64 → 64 * n ≤ q → q < 64 * n + 64 → device p ≡ device q
      one_device p q a b c d = omega (arith, a, b, c, d)

opening_last : (t : Shape) (n : ℕ) (h : Held) → CreatesLast (opening_asks t n h)
unfolding opening_asks cascades_of creates
opening_last t n h = (tt, all_last t n h (λ q. is_port t q && is_cascade t q) (64 * n) 64 (omega arith) (omega arith))

between_creates : (t : Shape) (l : Limits) (old new : Bridge) (h : Held) (x : Change) (held : Held) → outcome_between t l old new h ≡ Ready x held → CreatesLast x.prepare
unfolding change_of
between_creates t l old new h x held e = by_cause (refusal_between t l old new) e
  where
    by_cause : (o : Option Cause) → outcome_by o (change_of t l old new h) (claimed t l old new h) ≡ Ready x held → CreatesLast x.prepare
    by_cause (Some cause) f = absurd (cc)
    by_cause None f = (let same : change_of t l old new h ≡ x = cc in subst (λ (y : Change). CreatesLast y.prepare) same (prepare_last t l old new h))

-- of each change that is decided
pub plans_create_last : (t : Shape) (l : Limits) (b : Bridge) (h : Held) (j : Job) (x : Change) (held : Held) → decide t l b h j ≡ Ready x held → CreatesLast x.prepare
unfolding decide
plans_create_last t l b h (job.Opening n) x held e = (let same : opening_change t n h ≡ x = cc in subst (λ (y : Change). CreatesLast y.prepare) same (opening_last t n h))
plans_create_last t l b h (job.AutomaticUp p) x held e = between_creates t l b (after (command.Up p) b) h x held e
plans_create_last t l b h (job.Ordered n c) x held e = between_creates t l b (after c b) h x held e
