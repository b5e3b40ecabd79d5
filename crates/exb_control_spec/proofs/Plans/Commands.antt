-- What a command does to the parts of a configuration.
use Rattle.std.proofs.Common.{◌≡◌, ◌≢◌, ℕ, ◌==◌, ◌&&◌, ◌||◌, Bool, true, false, not, List, [], ◌∷◌, ◌++◌, filter, refl, sym, ◌∙◌, ap, inl, inr}
use Rattle.std.specs.Prelude.{find}
use Rattle.std.specs.List.{flat_map}
use Rattle.std.proofs.lemmas.Bool.{cases_Bool, cases_eq, ne_eqb, false≢true}
use Rattle.exb_model.specs.declared.rules.StaticAt.{StaticAt}
use Rattle.exb_model.specs.declared.command.Command.{Command}
use Rattle.exb_model.specs.declared.command.Command.TheVariants as command
use Rattle.exb_model.specs.Lists.{put_first}
use Rattle.exb_model.specs.Tree.{Shape, is_under}
use Rattle.exb_model.specs.Configuration.{Bridge, after, is_for}
use Rattle.exb_model.specs.Refusals.{Source, sources, all_vids, both_kinds, is_kind, bridge_ports}
use Rattle.exb_control_spec.specs.Plans.Sets.{PortsAt, parts_of, parts_below}
use Rattle.exb_control_spec.specs.Plans.TouchedParts.{sources_of_entry, sources_if, has_port, parts_where, parts_of_all, parts_before, parts_after}
use Rattle.exb_control_spec.proofs.Plans.ListTests.{flat_map-same}
use Rattle.exb_control_spec.proofs.Plans.ListDifferences.{Differ, none, differ-same, differ-where, differ-after, all-differ, all-go, all-come}
use Rattle.exb_control_spec.proofs.Plans.UntouchedSources.{untouched, untouched_elsewhere}

-- ---- sources that stand for the same parts before and after
module _ (f g : Source → List PortsAt) (same : (x : Source) → f x ≡ g x) where
  nothing_differs : (xs : List Source) → Differ (flat_map f xs) (flat_map g xs) [] []
  nothing_differs xs = rw (flat_map-same f g xs same) (differ-same (flat_map g xs))

  -- such sources in front
  differ-behind : (zs xs ys : List Source) {gone come : List PortsAt} → Differ (flat_map f xs) (flat_map g ys) gone come →
      Differ (flat_map f (zs ++ xs)) (flat_map g (zs ++ ys)) gone come
  differ-behind [] xs ys d = d
  differ-behind (z ∷ zs) xs ys d = rw (same z) (differ-after (g z) (differ-behind zs xs ys d))

  -- ---- static entries
  module _ (u w : Source → List PortsAt) (gone : (x : Source) → u x ≡ f x) (come : (x : Source) → w x ≡ g x) (test : StaticAt → Bool) where
    -- an entry is put in the place of the first that passes, or at the end
    differ-put : (e : StaticAt) (es : List StaticAt) →
        Differ (flat_map f (flat_map sources_of_entry es)) (flat_map g (flat_map sources_of_entry (put_first test e es)))
        (flat_map u (sources_if (find test es))) (flat_map w (sources_of_entry e))
    differ-put e [] = rw (come _, come _) (all-come _ (all-come _ none))
    differ-put e (y ∷ ys) =
        elim (cases_Bool (test y)) [
          | inl h ↦ rw (h, gone _, gone _, come _, come _) (all-go _ (all-go _ (all-come _ (all-come _ (nothing_differs (flat_map sources_of_entry ys))))))
          | inr h ↦ rw (h, same _, same _) (differ-after _ (differ-after _ (differ-put e ys)))
        ]

    -- all that pass are removed
    differ-removed : (es : List StaticAt) →
        Differ (flat_map f (flat_map sources_of_entry es)) (flat_map g (flat_map sources_of_entry (filter (λ e. not (test e)) es)))
        (flat_map u (flat_map sources_of_entry (filter test es))) []
    differ-removed [] = none
    differ-removed (y ∷ ys) =
        elim (cases_Bool (test y)) [
          | inl h ↦ rw (h, gone _, gone _) (all-go _ (all-go _ (differ-removed ys)))
          | inr h ↦ rw (h, same _, same _) (differ-after _ (differ-after _ (differ-removed ys)))
        ]

all_pass : {X : Type 0} (xs : List X) → filter (λ x. true) xs ≡ xs
all_pass [] = refl
all_pass (x ∷ xs) = ap (λ l. x ∷ l) (all_pass xs)

-- below all bridge ports
pub where_all : (t : Shape) (b : Bridge) (x : Source) → parts_where t b (λ k. true) x ≡ parts_below t b x
unfolding parts_where parts_below
where_all t b x = ap (flat_map (parts_of t b x)) (all_pass bridge_ports)

-- ---- commands
module _ (t : Shape) (b : Bridge) where
  -- a port that is no member makes no difference
  away : (p q : ℕ) (x : Source) (present : ℕ → Bool) → has_port b p x ≡ false → (q ≢ p → b.present q ≡ present q) →
      (b.present q && x.among q && is_kind x.kind (b.member x.vid q)) ≡ (present q && x.among q && is_kind x.kind (b.member x.vid q))
  away p q x present e same =
      elim (cases_eq q p) [
        | inl h ↦ rw h (neither (b.present p) (present p) (x.among p) (is_kind x.kind (b.member x.vid p)) e)
        | inr h ↦ ap (λ c. c && x.among q && is_kind x.kind (b.member x.vid q)) (same h)
      ]
    where
      neither : (c d a m : Bool) → (a && m) ≡ false → (c && a && m) ≡ (d && a && m)
      neither c d true true h = absurd (false≢true (sym h))
      neither true true true false h = refl
      neither true false true false h = refl
      neither false true true false h = refl
      neither false false true false h = refl
      neither true true false m h = refl
      neither true false false m h = refl
      neither false true false m h = refl
      neither false false false m h = refl

  -- sources that pass a test differ below the bridge ports that pass another one
  module _ (d : Bridge) (touched : Source → Bool) (test : ℕ → Bool) (same : (x : Source) → touched x ≡ false → parts_below t b x ≡ parts_below t d x)
      (elsewhere : (x : Source) (k : ℕ) → test k ≡ false → parts_of t b x k ≡ parts_of t d x k) where
    below_differ : (x : Source) → Differ (parts_below t b x) (parts_below t d x) (parts_where t b test x) (parts_where t d test x)
    unfolding parts_below parts_where
    below_differ x =
        differ-where (parts_of t b x) (parts_of t d x) (parts_of t b x) (parts_of t d x) test bridge_ports (elsewhere x) (λ k e. all-differ (parts_of t b x k) (parts_of t d x k))

    touched_differ : Differ (parts_of_all t b) (flat_map (parts_below t d) (sources b)) (flat_map (parts_where t b test) (filter touched (sources b)))
        (flat_map (parts_where t d test) (filter touched (sources b)))
    unfolding parts_of_all
    touched_differ = differ-where (parts_below t b) (parts_below t d) (parts_where t b test) (parts_where t d test) touched (sources b) same (λ x e. below_differ x)

  -- where each bridge port passes
  everywhere : (d : Bridge) (x : Source) (k : ℕ) → true ≡ false → parts_of t b x k ≡ parts_of t d x k
  everywhere d x k e = absurd (false≢true (sym e))

  and_no : (c : Bool) → (c && false) ≡ false
  and_no true = refl
  and_no false = refl

  pub command_differs : (c : Command) → Differ (parts_of_all t b) (parts_of_all t (after c b)) (parts_before t c b) (parts_after t c b)
  unfolding parts_of_all parts_before parts_after sources
  command_differs (command.Vlan v tagged untagged) =
      let d = after (command.Vlan v tagged untagged) b in
      touched_differ d (λ (x : Source). x.vid == v) (λ k. true) (λ x e. untouched t b d x (λ q. rw e refl) (λ q h. refl)) (everywhere d)
  command_differs (command.Member v p kind) =
      let d = after (command.Member v p kind) b in
      touched_differ d (λ (x : Source). x.vid == v) (λ k. is_under t k p) (λ x e. untouched t b d x (λ q. rw e refl) (λ q h. refl))
      (λ x k away. untouched_elsewhere t b d x p k away (λ q n. rw (ne_eqb q p n, and_no (x.vid == v)) refl) (λ q n. refl))
  command_differs (command.Unmember v p) =
      let d = after (command.Unmember v p) b in
      touched_differ d (λ (x : Source). x.vid == v) (λ k. is_under t k p) (λ x e. untouched t b d x (λ q. rw e refl) (λ q h. refl))
      (λ x k away. untouched_elsewhere t b d x p k away (λ q n. rw (ne_eqb q p n, and_no (x.vid == v)) refl) (λ q n. refl))
  command_differs (command.Pvid p v) =
      nothing_differs _ _ (λ x. untouched t b (after (command.Pvid p v) b) x (λ q. refl) (λ q h. elim (cases_Bool (q == p)) [ inl e ↦ rw e refl | inr e ↦ rw e refl ])) (sources b)
  command_differs (command.Accept p types) =
      nothing_differs _ _ (λ x. untouched t b (after (command.Accept p types) b) x (λ q. refl) (λ q h. elim (cases_Bool (q == p)) [ inl e ↦ rw e refl | inr e ↦ rw e refl ])) (sources b)
  command_differs (command.Filter p on) =
      nothing_differs _ _ (λ x. untouched t b (after (command.Filter p on) b) x (λ q. refl) (λ q h. elim (cases_Bool (q == p)) [ inl e ↦ rw e refl | inr e ↦ rw e refl ])) (sources b)
  command_differs (command.Isolate p on) =
      let d = after (command.Isolate p on) b in
      touched_differ d (has_port b p) (λ k. is_under t k p)
      (λ x e. untouched t b d x (λ q. refl) (λ q h. elim (cases_eq q p) [
        | inl same ↦ absurd (never (b.present p) (x.among p) (is_kind x.kind (b.member x.vid p)) e (rw same at h))
        | inr other ↦ rw (ne_eqb q p other) refl
      ]))
      (λ x k away. untouched_elsewhere t b d x p k away (λ q n. refl) (λ q n. rw (ne_eqb q p n) refl))
    where
      never : (c a m : Bool) → (a && m) ≡ false → (c && a && m) ≡ true → ⊥
      never c true m e h = elim (cases_Bool c) [ inl f ↦ false≢true (sym e ∙ (rw f at h)) | inr f ↦ false≢true (rw f at h) ]
      never true false m e h = false≢true h
      never false false m e h = false≢true h
  command_differs (command.Static v m ports) =
      let d = after (command.Static v m ports) b in
      let same : (x : Source) → parts_below t b x ≡ parts_below t d x = λ x. untouched t b d x (λ q. refl) (λ q h. refl) in
      differ-behind _ _ same (flat_map (λ w. both_kinds w (λ q. true)) all_vids) _ _
      (differ-put _ _ same _ _ (where_all t b) (where_all t d) (is_for v m.0) (record { vid = v; address = m; ports = ports }) b.statics)
  command_differs (command.Unstatic v m) =
      let d = after (command.Unstatic v m) b in
      let same : (x : Source) → parts_below t b x ≡ parts_below t d x = λ x. untouched t b d x (λ q. refl) (λ q h. refl) in
      differ-behind _ _ same (flat_map (λ w. both_kinds w (λ q. true)) all_vids) _ _
      (differ-removed _ _ same _ _ (where_all t b) (where_all t d) (is_for v m.0) b.statics)
  command_differs (command.Up p) =
      let d = after (command.Up p) b in
      touched_differ d (has_port b p) (λ k. is_under t k p)
      (λ x e. untouched t b d x (λ q. away p q x (λ r. r == p || b.present r) e (λ n. rw (ne_eqb q p n) refl)) (λ q h. refl))
      (λ x k off. untouched_elsewhere t b d x p k off (λ q n. rw (ne_eqb q p n) refl) (λ q n. refl))
  command_differs (command.Down p) =
      let d = after (command.Down p) b in
      touched_differ d (has_port b p) (λ k. is_under t k p)
      (λ x e. untouched t b d x (λ q. away p q x (λ r. not (r == p) && b.present r) e (λ n. rw (ne_eqb q p n) refl)) (λ q h. refl))
      (λ x k off. untouched_elsewhere t b d x p k off (λ q n. rw (ne_eqb q p n) refl) (λ q n. refl))
