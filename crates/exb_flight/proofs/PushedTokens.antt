-- A control word that is put on a link, down or up, is a token that may come there, or nothing.
use Rattle.std.proofs.Common.{◌≡◌, ◌⊎◌, ℕ, ◌==◌, ◌<◌, ◌≤◌, true, false, List, [], ◌∷◌, ◌++◌, Option, Some, None, refl, sym, ◌∙◌, ap, subst, arith, inl, inr}
use Rattle.std.proofs.lemmas.Bool.{cases_Bool, cases_eq, and_parts, eq-eqb, ne_eqb, eqb-true}
use Rattle.std.proofs.lemmas.List.{append-nil, append_assoc}
use Rattle.exb_model.specs.Tree.{Shape, IsTree, device, on}
use Rattle.exb_model.specs.Setup.{Limits}
use Rattle.exb_model.specs.History.{Basis, History, ◌then◌}
use Rattle.exb_frame.specs.TagValues.{TagRoundTrip}
use Rattle.exb_csp.specs.declared.message.Response.{Response}
use Rattle.exb_link.specs.declared.link_frame.LinkFrame.{LinkFrame}
use Rattle.exb_link.specs.LinkFrames.{is_control}
use Rattle.exb_control_spec.specs.Plans.HeldNumbers.{Held}
use Rattle.exb_control_spec.specs.Machine.{Work}
use Rattle.exb_control_spec.specs.Runs.Systems.{System}
use Rattle.exb_world_spec.specs.Worlds.{World, Way, Up, Down, Left, Line, push_down, push_up}
use Rattle.exb_model.specs.Tables.{at}
use Rattle.exb_world_spec.specs.Effects.{Effect, only, sending, then_do}
use Rattle.exb_world_spec.specs.Runs.Sessions.{WordFits, AskedOf, StoredAt, ArePaired, IsAnswered as WasAnswered}
use Rattle.exb_world_spec.specs.Runs.Simulation.{answer_at, answer_in}
use Rattle.exb_world_spec.proofs.LinkFrames.{at_same}
use Rattle.exb_flight.specs.Items.{Key, is_key, Item, Data, Token, leads}
use Rattle.exb_flight.specs.Flight.{Flight, SendDown, SendUp, add, work_of, serial_of, key_of}
use Rattle.exb_flight.specs.Flight as flights
use Rattle.exb_flight.specs.AllowedSteps.{IsOld, IsAsked, IsAnswered, Can, run, Runs}
use Rattle.exb_flight.specs.Tokens.{Thins, token_of, key_on, items_on}
use Rattle.exb_flight.specs.SimulationRelation.{Shows}
use Rattle.exb_flight.specs.Simulation.{Flown}
use Rattle.exb_flight.proofs.Items.{thins_append, items_append, items_control}
use Rattle.exb_flight.proofs.TokenKeys.{token_is}
use Rattle.exb_flight.proofs.SimulatedTicks.{none_left}
use Rattle.exb_flight.proofs.KeptPromises.{then_append}

-- ---- tokens that lead still do
pub record Grows (f g : Flight) : Type 0 where
  pub down : (k : Key) (n : ℕ) → leads k (f.down n) ≡ true → leads k (g.down n) ≡ true
  pub up : (k : Key) (n : ℕ) → leads k (f.up n) ≡ true → leads k (g.up n) ≡ true

pub grows_none : (f : Flight) → Grows f f
grows_none f = record { down = λ k n e. e; up = λ k n e. e }

pub grows_then : (f g e : Flight) → Grows f g → Grows g e → Grows f e
grows_then f g e a b = record { down = λ k n z. b.down k n (a.down k n z); up = λ k n z. b.up k n (a.up k n z) }

leads_append : (k : Key) (xs ys : List Item) → leads k xs ≡ true → leads k (xs ++ ys) ≡ true
leads_append k [] ys e = absurd (no e)
  where
    no : false ≡ true → ⊥
    no z = cc
leads_append k (Data f ∷ xs) ys e = e
leads_append k (Token j ∷ xs) ys e = elim (cases_Bool (is_key j k)) [ inl z ↦ rw z refl | inr z ↦ rw z (leads_append k xs ys (rw z at e)) ]

leads_add : (links : ℕ → List Item) (m : ℕ) (x : Item) (k : Key) (n : ℕ) → leads k (links n) ≡ true → leads k (add links m x n) ≡ true
leads_add links m x k n e = elim (cases_Bool (n == m)) [ inl z ↦ rw z (leads_append k (links n) (x ∷ []) e) | inr z ↦ rw z e ]

-- a word more on a link, and its token
thin_push : (t : Shape) (h : Held) (way : Way) (words : ℕ → List LinkFrame) (links : ℕ → List Item) (m : ℕ) (ws : List LinkFrame) (j : Key) → Thins (items_on t h way m ws) (links m ++ Token j ∷ []) → ((n : ℕ) → Thins (items_on t h way n (words n)) (links n)) →
    (n : ℕ) → Thins (items_on t h way n (at m ws words n)) (add links m (Token j) n)
thin_push t h way words links m ws j here there n =
    elim (cases_eq n m) [
      | inl z ↦ rw (eq-eqb n m z) (subst (λ (k : ℕ). Thins (items_on t h way k ws) (links k ++ Token j ∷ [])) (sym z) here)
      | inr z ↦ rw (ne_eqb n m z) (there n)
    ]

-- what is done is flown, and tokens that lead still do
pub record Pushed (t : Shape) (l : Limits) (i : Basis) (h : History) (gone : List Left) (f : Flight) (e : Effect) : Type 0 where
  pub flown : Flown t l i h gone f e
  pub grows : Grows f (run t l i f flown.steps)

-- ---- one thing after another
run_append : (t : Shape) (l : Limits) (i : Basis) (f : Flight) (xs ys : List flights.Step) → run t l i f (xs ++ ys) ≡ run t l i (run t l i f xs) ys
run_append t l i f [] ys = refl
run_append t l i f (x ∷ xs) ys = run_append t l i (flights.stepped t l i f x) xs ys

runs_append : (t : Shape) (l : Limits) (i : Basis) (f : Flight) (xs ys : List flights.Step) → Runs t l i f xs → Runs t l i (run t l i f xs) ys → Runs t l i f (xs ++ ys)
runs_append t l i f [] ys a b = b
runs_append t l i f (x ∷ xs) ys a b = (a.0, runs_append t l i (flights.stepped t l i f x) xs ys a.1 b)

module _ (t : Shape) (l : Limits) (i : Basis) where
  pub flown_then : (h : History) (gone : List Left) (f : Flight) (e : Effect) (g : World → Effect) → (a : Flown t l i h gone f e) →
      Flown t l i (h then e.events) (gone ++ e.left) (run t l i f a.steps) (g e.world) → Flown t l i h gone f (then_do e g)
  flown_then h gone f e g a b =
      record {
        steps = a.steps ++ b.steps;
        runs = runs_append t l i f a.steps b.steps a.runs b.runs;
        shows =
            subst (Shows t i (g e.world).world (h then (e.events ++ (g e.world).events)) (gone ++ (e.left ++ (g e.world).left))) (sym (run_append t l i f a.steps b.steps))
            (subst (λ (xs : List Left). Shows t i (g e.world).world (h then (e.events ++ (g e.world).events)) xs (run t l i (run t l i f a.steps) b.steps)) (append_assoc gone e.left (g e.world).left)
            (subst (λ (z : History). Shows t i (g e.world).world z ((gone ++ e.left) ++ (g e.world).left) (run t l i (run t l i f a.steps) b.steps)) (sym (then_append h e.events (g e.world).events)) b.shows));
      }

  pub pushed_then : (h : History) (gone : List Left) (f : Flight) (e : Effect) (g : World → Effect) → (a : Pushed t l i h gone f e) →
      Pushed t l i (h then e.events) (gone ++ e.left) (run t l i f a.flown.steps) (g e.world) → Pushed t l i h gone f (then_do e g)
  unfolding flown_then
  pushed_then h gone f e g a b =
      record {
        flown = flown_then h gone f e g a.flown b.flown;
        grows = subst (Grows f) (sym (run_append t l i f a.flown.steps b.flown.steps)) (grows_then f _ _ a.grows b.grows);
      }

  -- nothing that shows is done
  pub pushed_none : (w : World) (h : History) (gone : List Left) (f : Flight) → Shows t i w h gone f → Pushed t l i h gone f (only w)
  pushed_none w h gone f s = record { flown = record { steps = []; runs = tt; shows = none_left t i w h gone f s }; grows = grows_none f }

  -- ---- a word down
  module _ (tree : IsTree t) (round : TagRoundTrip) (w : World) (h : History) (gone : List Left) (f : Flight) (s : Shows t i w h gone f) where
    -- the key of a request that was asked
    key_old : (j : Key) → j.serial ≤ (w.control.askers j.extender).serial → ((v : Work) → work_of f ≡ Some v → is_key j (key_of f.system.state v) ≡ false) → IsOld f j
    key_old j early over =
        record {
          asked = subst (λ (y : System). j.serial ≤ serial_of y.state j.extender) (sym s.system) early;
          over = over;
        }

    -- it is that of the outstanding request, or old
    by_key : (X : Type 0) (j : Key) → j.serial ≤ (w.control.askers j.extender).serial → ((v : Work) → work_of f ≡ Some v → j ≡ key_of f.system.state v → X) → IsOld f j ⊎ X
    by_key X j early new = by_work (work_of f) refl
      where
        none_some : (v : Work) → None ≡ Some v → ⊥
        none_some v e = cc

        some_same : (v u : Work) → Some v ≡ Some u → v ≡ u
        some_same v u e = cc

        key_same : (a b : Key) → is_key a b ≡ true → a ≡ b
        key_same a b e =
            let p = and_parts (a.extender == b.extender) (a.serial == b.serial) e in
            ap (λ (n : ℕ). record { extender = n; serial = a.serial }) (eqb-true a.extender b.extender p.0) ∙ ap (λ (n : ℕ). record { extender = b.extender; serial = n }) (eqb-true a.serial b.serial p.1)

        by_work : (o : Option Work) → work_of f ≡ o → IsOld f j ⊎ X
        by_work None e = inl (key_old j early (λ v z. absurd (none_some v (sym e ∙ z))))
        by_work (Some v) e =
            elim (cases_Bool (is_key j (key_of f.system.state v))) [
              | inl z ↦ inr (new v e (key_same j (key_of f.system.state v) z))
              | inr z ↦ inl (key_old j early (λ u y. subst (λ (x : Work). is_key j (key_of f.system.state x) ≡ false) (some_same v u (sym e ∙ y)) z))
            ]

    pub pushed_down : (line : Line) (m : ℕ) (x : LinkFrame) → is_control x ≡ true → WordFits t w.control.held (AskedOf w.control.askers) m x →
        ((j : Key) → key_on t w.control.held Down m x ≡ Some j → (on t m < 64) ⊎ (leads j (f.down (device (on t m))) ≡ true)) → Pushed t l i h gone f (sending line (push_down m x w))
    pushed_down line m x control fits from = by_token (key_on t w.control.held Down m x) refl
      where
        -- the items of the link with one word more
        items_more : (o : Option Key) → key_on t w.control.held Down m x ≡ o → items_on t w.control.held Down m (w.down m ++ x ∷ []) ≡ items_on t w.control.held Down m (w.down m) ++ token_of o []
        items_more o e = items_append (key_on t w.control.held Down m) (w.down m) (x ∷ []) ∙ ap (λ (ys : List Item). items_on t w.control.held Down m (w.down m) ++ ys) (items_control (key_on t w.control.held Down m) x [] control ∙ ap (λ (z : Option Key). token_of z []) e)

        by_token : (o : Option Key) → key_on t w.control.held Down m x ≡ o → Pushed t l i h gone f (sending line (push_down m x w))
        by_token None e =
            record {
              flown = record {
                steps = [];
                runs = tt;
                shows = none_left t i _ h gone f (record {
                  system = s.system;
                  down = at_same (λ n ws. Thins (items_on t w.control.held Down n ws) (f.down n)) m (w.down m ++ x ∷ []) w.down
                      (subst (λ ys. Thins ys (f.down m)) (sym (items_more None e ∙ append-nil (items_on t w.control.held Down m (w.down m)))) (s.down m)) s.down;
                  up = s.up;
                  history = s.history;
                  left = s.left;
                  learned = s.learned;
                });
              };
              grows = grows_none f;
            }
        by_token (Some j) e =
            let token = token_is t tree round w.control.held Down (AskedOf w.control.askers) m x j control fits e in
            let early : j.serial ≤ (w.control.askers j.extender).serial = token.0.1.early in
            let may : Can t i f (SendDown m j) = by_key (IsAsked t f m j) j early (λ v is key. record { work = v; at_work = is; key = key; from = from j e }) in
            record {
              flown = record {
                steps = SendDown m j ∷ [];
                runs = (may, tt);
                shows = none_left t i _ h gone _ (record {
                  system = s.system;
                  down = thin_push t w.control.held Down w.down f.down m (w.down m ++ x ∷ []) j
                      (subst (λ ys. Thins ys (f.down m ++ Token j ∷ [])) (sym (items_more (Some j) e)) (thins_append (items_on t w.control.held Down m (w.down m)) (f.down m) (Token j ∷ []) (s.down m))) s.down;
                  up = s.up;
                  history = s.history;
                  left = s.left;
                  learned = s.learned;
                });
              };
              grows = record { down = λ k n z. leads_add f.down m (Token j) k n z; up = λ k n z. z };
            }

    -- ---- a word up
    pub pushed_up : (line : Line) (m : ℕ) (x : LinkFrame) → is_control x ≡ true → WordFits t w.control.held (StoredAt w.far) m x → ((n : ℕ) → ArePaired (w.control.askers n) (w.far n).session) →
        ((j : Key) → key_on t w.control.held Up m x ≡ Some j → (m ≡ j.extender) ⊎ ((c : ℕ) × (64 ≤ on t c) × (device (on t c) ≡ m) × (leads j (f.up c) ≡ true))) → Pushed t l i h gone f (sending line (push_up m x w))
    pushed_up line m x control fits paired from = by_token (key_on t w.control.held Up m x) refl
      where
        items_more : (o : Option Key) → key_on t w.control.held Up m x ≡ o → items_on t w.control.held Up m (w.up m ++ x ∷ []) ≡ items_on t w.control.held Up m (w.up m) ++ token_of o []
        items_more o e = items_append (key_on t w.control.held Up m) (w.up m) (x ∷ []) ∙ ap (λ (ys : List Item). items_on t w.control.held Up m (w.up m) ++ ys) (items_control (key_on t w.control.held Up m) x [] control ∙ ap (λ (z : Option Key). token_of z []) e)

        -- the outstanding request is executed, and this is its answer
        answered_now : (j : Key) (v : Work) (response : Response) → WasAnswered (w.far j.extender).session j.serial response → work_of f ≡ Some v → j ≡ key_of f.system.state v → f.system.answer ≡ Some response
        answered_now j v response stored is key =
            let at_w : w.control.work ≡ Some v = subst (λ (y : System). y.state.work ≡ Some v) s.system is in
            let key_w : j ≡ key_of w.control v = subst (λ (y : System). j ≡ key_of y.state v) s.system key in
            let n : ℕ = v.first.extender in
            let here : WasAnswered (w.far v.first.extender).session (w.control.askers v.first.extender).serial response = subst (λ (k : Key). WasAnswered (w.far k.extender).session k.serial response) key_w stored in
            let last : (w.far n).session.last ≡ (w.control.askers n).serial = elim (paired n) [ inl e ↦ e | inr e ↦ absurd (omega (arith, e.0, here.early)) ] in
            let answer : answer_at (w.control.askers n) (w.far n) ≡ Some response = rw (eq-eqb (w.far n).session.last (w.control.askers n).serial last) (here.same (sym last)) in
            subst (λ (y : System). y.answer ≡ Some response) (sym s.system) (ap (λ (o : Option Work). answer_in o w.control.askers w.far) at_w ∙ answer)

        by_token : (o : Option Key) → key_on t w.control.held Up m x ≡ o → Pushed t l i h gone f (sending line (push_up m x w))
        by_token None e =
            record {
              flown = record {
                steps = [];
                runs = tt;
                shows = none_left t i _ h gone f (record {
                  system = s.system;
                  down = s.down;
                  up = at_same (λ n ws. Thins (items_on t w.control.held Up n ws) (f.up n)) m (w.up m ++ x ∷ []) w.up
                      (subst (λ ys. Thins ys (f.up m)) (sym (items_more None e ∙ append-nil (items_on t w.control.held Up m (w.up m)))) (s.up m)) s.up;
                  history = s.history;
                  left = s.left;
                  learned = s.learned;
                });
              };
              grows = grows_none f;
            }
        by_token (Some j) e =
            let token = token_is t tree round w.control.held Up (StoredAt w.far) m x j control fits e in
            let early : j.serial ≤ (w.control.askers j.extender).serial = elim (paired j.extender) [ inl z ↦ omega (arith, token.0.1.early, z) | inr z ↦ omega (arith, token.0.1.early, z.0) ] in
            let may : Can t i f (SendUp m j) = by_key (IsAnswered t f m j) j early (λ v is key. record {
              work = v;
              at_work = is;
              key = key;
              response = token.0.0;
              answer = answered_now j v token.0.0 token.0.1 is key;
              from = elim (from j e) [ inl z ↦ inl (z ∙ ap (λ (k : Key). k.extender) key) | inr z ↦ inr z ];
            }) in
            record {
              flown = record {
                steps = SendUp m j ∷ [];
                runs = (may, tt);
                shows = none_left t i _ h gone _ (record {
                  system = s.system;
                  down = s.down;
                  up = thin_push t w.control.held Up w.up f.up m (w.up m ++ x ∷ []) j
                      (subst (λ ys. Thins ys (f.up m ++ Token j ∷ [])) (sym (items_more (Some j) e)) (thins_append (items_on t w.control.held Up m (w.up m)) (f.up m) (Token j ∷ []) (s.up m))) s.up;
                  history = s.history;
                  left = s.left;
                  learned = s.learned;
                });
              };
              grows = record { down = λ k n z. z; up = λ k n z. leads_add f.up m (Token j) k n z };
            }
