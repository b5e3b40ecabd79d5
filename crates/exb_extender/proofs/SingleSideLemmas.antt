-- Frames that go on to one side alone.
use Rattle.std.proofs.Common.{◌≡◌, ◌≢◌, ℕ, ◌+◌, ◌^◌, ◌<◌, ◌≤◌, ◌==◌, ◌&&◌, not, Bool, true, false, cond, nat_le, List, [], ◌∷◌, length, map, inl, inr, refl, ap, sym, ◌∙◌, arith}
use Rattle.std.specs.Prelude.{Some, None}
use Rattle.std.specs.Int.{w64, trailing_zeros}
use Rattle.std.proofs.lemmas.Bool.{and_parts, cases_Bool, false≢true}
use Rattle.exb_model.specs.Frames.{is_control_frame, number_at}
use Rattle.exb_model.specs.ETags.{Tag, has_etag, read_etag}
use Rattle.exb_csp.specs.Execution.{ExtenderTables, in_mask}
use Rattle.exb_csp.proofs.ExecutionLoops.{without}
use Rattle.exb_extender.specs.declared.sends.Form.{Form}
use Rattle.exb_extender.specs.declared.sends.Form.TheVariants.{AsIs}
use Rattle.exb_extender.specs.declared.sends.Out.{Out}
use Rattle.exb_extender.specs.declared.sends.Side.TheVariants.{Up, Port}
use Rattle.exb_extender.specs.Forwarding.{Sent, emitted, is_bare_control, names_channel, sent_from_cascade, sent_from_external, up}
use Rattle.exb_extender.specs.Machine.{ExtenderState, Arrives, react}
use Rattle.exb_extender.specs.SingleSide.{GoesAt, GoesTo, IsLow}
use Rattle.exb_extender.specs.SentFrames.{form_at, listed_at, out_sent, outs_at, outs_where}
use Rattle.exb_extender.proofs.ForwardingLemmas.{all_sent, begins, ends, goes_on, lowest, outs_given, tagged_long}

port_low : (k n : ℕ) → 0 < k → k ≤ 64 → Port k ≡ Port n → (0 < n) × (n ≤ 64)
port_low k n some few is = let e : k ≡ n = cc in (omega (arith, some, e), omega (arith, few, e))

-- ---- one port

-- a word of one bit
pub one_port : (t : ExtenderTables) (tag : Tag) (word : ℕ) (p : ℕ → Bool) (form : Form) → word ≢ 0 → word < 2 ^ 64 → ((q : ℕ) → in_mask word q ≡ p q) → without word (trailing_zeros w64 word) ≡ 0 →
    form_at t tag (trailing_zeros w64 word + 1) ≡ Some form → outs_where p t tag ≡ record { to = Port (trailing_zeros w64 word + 1); form = form } ∷ []
one_port t tag word p form some small same alone is =
    let at = trailing_zeros w64 word in
    let out : Out = record { to = Port (at + 1); form = form } in
    let here : out ∷ [] ≡ outs_at t tag (at + 1) = sym (ap (listed_at (at + 1)) is) in
    sym (ends t tag (without word at) p (out ∷ []) alone (goes_on t tag word at p [] (out ∷ []) (lowest word some small) (begins t tag word p [] refl same) here))

pub goes_at : (t : ExtenderTables) (tag : Tag) (word : ℕ) (form : Form) → word ≢ 0 → word < 2 ^ 64 → ((q : ℕ) → in_mask word q ≡ t.pair tag.ecid q) → without word (trailing_zeros w64 word) ≡ 0 →
    form_at t tag (trailing_zeros w64 word + 1) ≡ Some form → GoesAt t tag (record { to = Port (trailing_zeros w64 word + 1); form = form })
goes_at t tag word form some small same alone is =
    let low = lowest word some small in
    record {
      only = one_port t tag word (t.pair tag.ecid) form some small same alone is;
      low = λ k e. port_low (trailing_zeros w64 word + 1) k (omega arith) (omega (arith, low.few)) e;
    }

-- ---- from upstream

-- a frame whose E-TAG can be read is not for the extender itself
not_bare : (f : List ℕ) (tag : Tag) → Some tag ≡ read_etag f → is_bare_control f ≡ false
unfolding is_bare_control
not_bare f tag is =
    elim (cases_Bool (has_etag f)) [
      | inl has ↦
          let typed : (number_at f 12 == 35135) ≡ true = (and_parts (number_at f 12 == 35135) (number_at f 18 == 0) (and_parts (nat_le 20 (length f)) (number_at f 12 == 35135 && number_at f 18 == 0) has).1).0 in
          rw typed (by_tests (nat_le 14 (length f)) (is_control_frame f))
      | inr out ↦ absurd (some_none (rw out at is))
    ]
  where
    by_tests : (long control : Bool) → (long && (not true && control)) ≡ false
    by_tests true control = refl
    by_tests false control = refl

    some_none : Some tag ≡ None → ⊥
    some_none e = cc

forwarded : (f : List ℕ) (s : ExtenderState) (xs : List Sent) → is_bare_control f ≡ false → emitted s.tables Up f ≡ xs → react (Arrives Up f) s ≡ (s, xs)
forwarded f s xs plain is = rw plain (ap (λ (ys : List Sent). (s, ys)) is)

pub goes_down : (t : ExtenderTables) (f : List ℕ) (tag : Tag) (out : Out) → t.ports ≤ 64 → ((q : ℕ) → t.ports < q → t.own q ≡ 0) → Some tag ≡ read_etag f → GoesAt t tag out → GoesTo t Up f out
goes_down t f tag out few outside is goes =
    let all : emitted t Up f ≡ out_sent f out ∷ [] = sym (all_sent t f tag few outside (sym is)) ∙ ap (map (out_sent f)) goes.only in
    record {
      reacts = λ s same. forwarded f s (out_sent f out ∷ []) (not_bare f tag is) (ap (λ (u : ExtenderTables). emitted u Up f) same ∙ all);
      given = outs_given f (t.pair tag.ecid) t tag (out ∷ []) (tagged_long f tag is) (sym goes.only) 0 out (omega arith);
      low = goes.low;
    }

-- ---- from a cascade port

chosen : {X : Type 0} (b : Bool) (x y : X) → b ≡ true → cond b x y ≡ x
chosen true x y is = refl
chosen false x y is = absurd (false≢true is)

goes_up : (t : ExtenderTables) (port : ℕ) (f : List ℕ) → t.cascade port ≡ true → names_channel (read_etag f) ≡ true → emitted t (Port port) f ≡ up f ∷ []
unfolding emitted
goes_up t port f cascade named = chosen (t.cascade port) (sent_from_cascade (t.own port) f) (sent_from_external (t.own port) f) cascade ∙ chosen (names_channel (read_etag f)) (up f ∷ []) _ named

up_low : IsLow Up
up_low k is = absurd cc

pub goes_on_up : (t : ExtenderTables) (port : ℕ) (f : List ℕ) → t.cascade port ≡ true → names_channel (read_etag f) ≡ true → GoesTo t (Port port) f (record { to = Up; form = AsIs })
goes_on_up t port f cascade named =
    record {
      reacts = λ s same. ap (λ (xs : List Sent). (s, xs)) (ap (λ (u : ExtenderTables). emitted u (Port port) f) same ∙ goes_up t port f cascade named);
      given = tt;
      low = up_low;
    }
