-- What an asker takes as its answer, and what is then known of the request that is outstanding.
use Rattle.std.proofs.Common.{◌≡◌, ◌≢◌, ◌⊎◌, ℕ, ◌||◌, not, nat_lt, Bool, true, false, Option, Some, None, refl, ap, sym, ◌∙◌, arith, inl, inr}
use Rattle.std.proofs.lemmas.Bool.{cases_Bool, cases_eq, cases_lt, eq-eqb, ne_eqb, lt-ltb}
use Rattle.exb_csp.specs.declared.message.Body.{Body}
use Rattle.exb_csp.specs.declared.message.Body.TheVariants as body
use Rattle.exb_csp.specs.declared.message.Message.{Message}
use Rattle.exb_csp.specs.declared.message.Request.{Request}
use Rattle.exb_csp.specs.declared.message.Response.{Response}
use Rattle.exb_csp.specs.RequestKinds.{kind_of, same_kind}
use Rattle.exb_csp.specs.declared.session.asker.Taken.TheVariants as taken
use Rattle.exb_csp.specs.Sessions.AskingEnd.{AskerState, took}
use Rattle.exb_control_spec.specs.Machine.{Work, State}
use Rattle.exb_control_spec.specs.Runs.MachineInvariant.{OneWaits, waited_for}

pub record IsTaken (a : AskerState) (m : Message) : Type 0 where
  pub response : Response
  pub request : Request
  pub waited : a.waiting ≡ Some request
  pub serial : m.serial ≡ a.serial
  pub content : m.body ≡ body.Answer response
  pub is : took a m ≡ (record { serial = a.serial; waiting = None; beats = 0 }, taken.Answer response)

abbrev pub NotTaken : AskerState → Message → Type 0
NotTaken a m = (response : Response) → (took a m).1 ≢ taken.Answer response

or_false : (a b : Bool) → (a || b) ≡ false → a ≡ false
or_false true b e = e
or_false false b e = refl

same_serial : (n m : ℕ) → nat_lt n m ≡ false → nat_lt m n ≡ false → n ≡ m
same_serial n m a b =
    elim (cases_lt n m) [
      | inl l ↦ absurd (let k = lt-ltb n m l in both (nat_lt n m) k a)
      | inr l ↦ elim (cases_lt m n) [
        | inl g ↦ absurd (let k = lt-ltb m n g in both (nat_lt m n) k b)
        | inr g ↦ omega arith
      ]
    ]
  where
    both : (b : Bool) → b ≡ true → b ≡ false → ⊥
    both b x y = cc

pub took_cases : (a : AskerState) (m : Message) → IsTaken a m ⊎ NotTaken a m
took_cases a m = by_body a.waiting m.body refl refl
  where
    by_body : (o : Option Request) (c : Body) → a.waiting ≡ o → m.body ≡ c → IsTaken a m ⊎ NotTaken a m
    by_body None c e f = inr (λ response k. absurd (let z = rw e at k in cc))
    by_body (Some request) (body.Ask other) e f = inr (λ response k. absurd (let z = rw (e, f) at k in cc))
    by_body (Some request) (body.Answer response) e f =
        elim (cases_Bool (nat_lt m.serial a.serial)) [
          | inl l ↦ inr (λ response' k. absurd (let z = rw (e, f, l) at k in cc))
          | inr l ↦ elim (cases_Bool (nat_lt a.serial m.serial || not (same_kind response.to (kind_of request)))) [
            | inl g ↦ inr (λ response' k. absurd (let z = rw (e, f, l, g) at k in cc))
            | inr g ↦ inl (record {
              response = response;
              request = request;
              waited = e;
              serial = same_serial m.serial a.serial l (or_false (nat_lt a.serial m.serial) (not (same_kind response.to (kind_of request))) g);
              content = f;
              is = rw (e, f, l, g) refl;
            })
          ]
        ]

-- ---- the outstanding request
pub record IsOutstanding (s : State) (n : ℕ) (request : Request) : Type 0 where
  pub work : Work
  pub is : s.work ≡ Some work
  pub of : work.first.extender ≡ n
  pub asked : work.first.request ≡ request

-- it is the one for which an asker waits
pub outstanding : (s : State) (n : ℕ) (request : Request) → OneWaits s → (s.askers n).waiting ≡ Some request → IsOutstanding s n request
outstanding s n request waits e = by_work s.work refl (sym (waits n) ∙ e)
  where
    by_work : (o : Option Work) → s.work ≡ o → waited_for o n ≡ Some request → IsOutstanding s n request
    by_work None is k = absurd (cc)
    by_work (Some w) is k =
        elim (cases_eq n w.first.extender) [
          | inl same ↦
              let z : Some w.first.request ≡ Some request = rw (eq-eqb n w.first.extender same) at k in
              record { work = w; is = is; of = sym same; asked = cc }
          | inr other ↦ absurd (let z = rw (ne_eqb n w.first.extender other) at k in cc)
        ]

-- where one waits, no other does
pub others_free : (s : State) (n m : ℕ) (request : Request) → OneWaits s → (s.askers n).waiting ≡ Some request → (m ≡ n → ⊥) → (s.askers m).waiting ≡ None
others_free s n m request waits e ne =
    let k = outstanding s n request waits e in
    let z : (s.askers m).waiting ≡ waited_for (Some k.work) m = waits m ∙ ap (λ (o : Option Work). waited_for o m) k.is in
    z ∙ (rw (ne_eqb m k.work.first.extender (λ y. ne (y ∙ k.of))) refl)

-- where no request is outstanding, nobody waits
pub none_free : (s : State) → OneWaits s → s.work ≡ None → (n : ℕ) → (s.askers n).waiting ≡ None
none_free s waits e n = waits n ∙ ap (λ (o : Option Work). waited_for o n) e
