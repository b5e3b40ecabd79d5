-- What comes in by a step: the words of the links, beside its first line.
use Rattle.std.proofs.Common.{◌≡◌, ◌≢◌, ℕ, ◌+◌, ◌<◌, Bool, true, List, [], ◌∷◌, ◌++◌, append-nil, Some, refl, ap, sym, ◌∙◌, subst, arith, inl, inr}
use Rattle.std.proofs.lemmas.Bool.{cases_eq, cases_lt, lt-ltb, le-ltb, false≢true}
use Rattle.exb_model.specs.Tree.{Shape, IsTree, device, on, is_extender, is_external, port_number}
use Rattle.exb_link.specs.declared.link_frame.LinkFrame.{LinkFrame}
use Rattle.exb_link.specs.LinkFrames.{leading, without_data, without_control}
use Rattle.exb_model.specs.Frames.{is_control_frame}
use Rattle.exb_world_spec.specs.Worlds.{World, Way, Up, Down}
use Rattle.exb_world_spec.specs.Steps.{words_on, with_words, first_data, control_at, rest_of, line_at, line_of}
use Rattle.exb_world_spec.proofs.LinkFrames.{at_here, at_other}
use Rattle.exb_model.specs.Traces.{TraceLine, In}
use Rattle.exb_world_spec.specs.TraceLines.{told}
use Rattle.exb_trace_laws.specs.LinkEnds.{end_of}
use Rattle.exb_trace_spec.specs.Rule3Links.{in_at, ins, data_of, WasSent}
use Rattle.exb_trace_laws.specs.TraceRelation.{IsOnLink}
use Rattle.exb_trace_laws.proofs.LinkLines.{on_take, on_control, on_lose, was_sent, first_is_data}
use Rattle.exb_trace_laws.proofs.EffectLines.{at_port, at_other_port, port_not_up, up_not_port, at_upstream, other_upstream, not_on_external, not_on_same}

-- ---- the first line
pub told_at : (p : ℕ) (f : List ℕ) → told (line_at p f) ≡ In (device p) (port_number p) f
told_at p f =
    elim (cases_lt p 64) [
      | inl low ↦
          let d : 0 ≡ device p = omega arith in
          let k : p + 1 ≡ port_number p = omega arith in
          rw (lt-ltb p 64 low) (ap (λ (i : ℕ). In i (p + 1) f) d ∙ ap (λ (j : ℕ). In (device p) j f) k)
      | inr high ↦ rw (le-ltb p 64 high) refl
    ]

module _ (t : Shape) (tree : IsTree t) where
  -- a frame at an external port is no word
  pub arrival_no_word : (p : ℕ) (f : List ℕ) → is_external t p ≡ true → (n : ℕ) (way : Way) → is_extender t n ≡ true → in_at (end_of t n way) (told (line_at p f)) ≡ []
  arrival_no_word p f out n Up there = ap (in_at (end_of t n Up)) (told_at p f) ∙ at_other_port (on t n) p f (λ e. not_on_external t tree n p there out (sym e))
  arrival_no_word p f out n Down there = ap (in_at (end_of t n Down)) (told_at p f) ∙ port_not_up n p f

  -- a word comes in at the end of its direction
  pub word_at_end : (m : ℕ) (way : Way) (f : List ℕ) → in_at (end_of t m way) (told (line_of t m way f)) ≡ f ∷ []
  word_at_end m Up f = ap (in_at (end_of t m Up)) (told_at (on t m) f) ∙ at_port (on t m) (on t m) f refl
  word_at_end m Down f = at_upstream m m f refl

  -- and at no other one
  abbrev pub IsOther : ℕ → Way → ℕ → Way → Type 0
  IsOther n Up m Up = n ≢ m
  IsOther n Down m Down = n ≢ m
  IsOther n _ m _ = Unit {0}

  pub word_not_at : (n : ℕ) (way : Way) (m : ℕ) (its : Way) (f : List ℕ) → is_extender t n ≡ true → is_extender t m ≡ true → IsOther n way m its → in_at (end_of t n way) (told (line_of t m its f)) ≡ []
  word_not_at n Up m Up f a b ne = ap (in_at (end_of t n Up)) (told_at (on t m) f) ∙ at_other_port (on t n) (on t m) f (λ e. not_on_same t tree n m a b ne (sym e))
  word_not_at n Down m Down f a b ne = other_upstream n m f (λ e. ne (sym e))
  word_not_at n Up m Down f a b ne = up_not_port (on t n) m f
  word_not_at n Down m Up f a b ne = ap (in_at (end_of t n Down)) (told_at (on t m) f) ∙ port_not_up n (on t m) f

  -- ---- words
  same_words : (m : ℕ) (way : Way) (ws : List LinkFrame) (w : World) → words_on m way (with_words m way ws w) ≡ ws
  same_words m Up ws w = at_here m ws w.up
  same_words m Down ws w = at_here m ws w.down

  other_words : (n : ℕ) (way : Way) (m : ℕ) (its : Way) (ws : List LinkFrame) (w : World) → IsOther n way m its → words_on n way (with_words m its ws w) ≡ words_on n way w
  other_words n Up m Up ws w ne = at_other m n ws w.up ne
  other_words n Down m Down ws w ne = at_other m n ws w.down ne
  other_words n Up m Down ws w ne = refl
  other_words n Down m Up ws w ne = refl

  -- by whether it is that direction
  pub by_direction : (P : ℕ → Way → Type 0) (n : ℕ) (way : Way) (m : ℕ) (its : Way) → P m its → (IsOther n way m its → P n way) → P n way
  by_direction P n Up m Up here there = elim (cases_eq n m) [ inl e ↦ subst (λ (i : ℕ). P i Up) (sym e) here | inr ne ↦ there ne ]
  by_direction P n Down m Down here there = elim (cases_eq n m) [ inl e ↦ subst (λ (i : ℕ). P i Down) (sym e) here | inr ne ↦ there ne ]
  by_direction P n Up m Down here there = there tt
  by_direction P n Down m Up here there = there tt

  -- ---- what is taken
  -- whatever went out and came in before, the words are on their links after these lines; and a control word that came
  -- in was sent
  pub record Takes (w v : World) (ls : List TraceLine) : Type 0 where
    pub links : (n : ℕ) (way : Way) → is_extender t n ≡ true → (sent taken : List (List ℕ)) → IsOnLink sent taken (words_on n way w) → IsOnLink sent (taken ++ ins (end_of t n way) ls) (words_on n way v)
    pub sent : (n : ℕ) (way : Way) → is_extender t n ≡ true → (sent taken : List (List ℕ)) → IsOnLink sent taken (words_on n way w) → (f : List ℕ) → ins (end_of t n way) ls ≡ f ∷ [] → is_control_frame f ≡ true →
        WasSent sent (data_of taken) f

  none_one : (f : List ℕ) → [] ≡ f ∷ [] → ⊥
  none_one f e = cc

  one_same : {f g : List ℕ} → f ∷ [] ≡ g ∷ [] → f ≡ g
  one_same e = cc

  still_on : (sent taken : List (List ℕ)) (ws : List LinkFrame) (fs : List (List ℕ)) → fs ≡ [] → IsOnLink sent taken ws → IsOnLink sent (taken ++ fs) ws
  still_on sent taken ws fs e k = subst (λ zs. IsOnLink sent zs ws) (sym (ap (λ zs. taken ++ zs) e ∙ append-nil taken)) k

  -- no word is taken
  pub takes_none : (w v : World) (ls : List TraceLine) → v.down ≡ w.down → v.up ≡ w.up → ((n : ℕ) (way : Way) → is_extender t n ≡ true → ins (end_of t n way) ls ≡ []) → Takes w v ls
  takes_none w v ls down up none =
      record {
        links = λ n way there sent taken k. still_on sent taken (words_on n way v) (ins (end_of t n way) ls) (none n way there) (by_way n way sent taken k);
        sent = λ n way there sent taken k f e c. absurd (none_one f (sym (none n way there) ∙ e));
      }
    where
      by_way : (n : ℕ) (way : Way) (sent taken : List (List ℕ)) → IsOnLink sent taken (words_on n way w) → IsOnLink sent taken (words_on n way v)
      by_way n Up sent taken k = subst (λ (g : ℕ → List LinkFrame). IsOnLink sent taken (g n)) (sym up) k
      by_way n Down sent taken k = subst (λ (g : ℕ → List LinkFrame). IsOnLink sent taken (g n)) (sym down) k

  module _ (m : ℕ) (its : Way) (there : is_extender t m ≡ true) (w : World) where
    -- a word of one direction is taken
    takes_one : (x : LinkFrame) (rest : List LinkFrame) →
        ((sent taken : List (List ℕ)) → IsOnLink sent taken (words_on m its w) → IsOnLink sent (taken ++ x.bytes ∷ []) rest) →
        ((sent taken : List (List ℕ)) → IsOnLink sent taken (words_on m its w) → is_control_frame x.bytes ≡ true → WasSent sent (data_of taken) x.bytes) →
        Takes w (with_words m its rest w) (told (line_of t m its x.bytes) ∷ [])
    takes_one x rest moved was =
        let ls : List TraceLine = told (line_of t m its x.bytes) ∷ [] in
        let v : World = with_words m its rest w in
        let here : ins (end_of t m its) ls ≡ x.bytes ∷ [] = ap (λ zs. zs ++ []) (word_at_end m its x.bytes) in
        let none : (n : ℕ) (way : Way) → is_extender t n ≡ true → IsOther n way m its → ins (end_of t n way) ls ≡ [] = λ n way a ne. ap (λ zs. zs ++ []) (word_not_at n way m its x.bytes a there ne) in
        record {
          links = λ n way a.
              by_direction (λ i d. is_extender t i ≡ true → (sent taken : List (List ℕ)) → IsOnLink sent taken (words_on i d w) → IsOnLink sent (taken ++ ins (end_of t i d) ls) (words_on i d v)) n way m its
              (λ b sent taken k. subst (λ zs. IsOnLink sent (taken ++ zs) (words_on m its v)) (sym here) (subst (λ ws. IsOnLink sent (taken ++ x.bytes ∷ []) ws) (sym (same_words m its rest w)) (moved sent taken k)))
              (λ ne b sent taken k. subst (λ ws. IsOnLink sent (taken ++ ins (end_of t n way) ls) ws) (sym (other_words n way m its rest w ne)) (still_on sent taken (words_on n way w) (ins (end_of t n way) ls) (none n way b ne) k))
              a;
          sent = λ n way a.
              by_direction (λ i d. is_extender t i ≡ true → (sent taken : List (List ℕ)) → IsOnLink sent taken (words_on i d w) → (f : List ℕ) → ins (end_of t i d) ls ≡ f ∷ [] → is_control_frame f ≡ true → WasSent sent (data_of taken) f) n way m its
              (λ b sent taken k f e c. (
              let same : x.bytes ≡ f = one_same (sym here ∙ e) in
              subst (λ g. WasSent sent (data_of taken) g) same (was sent taken k (ap is_control_frame same ∙ c))
              ))
              (λ ne b sent taken k f e c. absurd (none_one f (sym (none n way b ne) ∙ e)))
              a;
        }

    pub takes_data : (x : LinkFrame) → first_data (words_on m its w) ≡ Some x → Takes w (with_words m its (without_data (words_on m its w)) w) (told (line_of t m its x.bytes) ∷ [])
    takes_data x e =
        takes_one x (without_data (words_on m its w)) (λ sent taken k. on_take sent taken (words_on m its w) x e k)
        (λ sent taken k c. absurd (false≢true (sym (first_is_data (words_on m its w) x e) ∙ c)))

    pub takes_control_word : (k : ℕ) (keep : Bool) (x : LinkFrame) → k < leading (words_on m its w) → control_at (words_on m its w) k ≡ Some x →
        Takes w (with_words m its (rest_of keep (words_on m its w) k) w) (told (line_of t m its x.bytes) ∷ [])
    takes_control_word k keep x few e =
        takes_one x (rest_of keep (words_on m its w) k) (λ sent taken on. on_control sent taken (words_on m its w) k keep x e on)
        (λ sent taken on c. was_sent sent taken (words_on m its w) k x few e on)

    pub takes_lost : (k : ℕ) → Takes w (with_words m its (without_control (words_on m its w) k) w) []
    takes_lost k =
        let v : World = with_words m its (without_control (words_on m its w) k) w in
        record {
          links = λ n way a.
              by_direction (λ i d. (sent taken : List (List ℕ)) → IsOnLink sent taken (words_on i d w) → IsOnLink sent (taken ++ []) (words_on i d v)) n way m its
              (λ sent taken on. still_on sent taken (words_on m its v) [] refl (subst (λ ws. IsOnLink sent taken ws) (sym (same_words m its (without_control (words_on m its w) k) w)) (on_lose sent taken (words_on m its w) k on)))
              (λ ne sent taken on. still_on sent taken (words_on n way v) [] refl (subst (λ ws. IsOnLink sent taken ws) (sym (other_words n way m its (without_control (words_on m its w) k) w ne)) on));
          sent = λ n way a sent taken on f e c. absurd (none_one f e);
        }
