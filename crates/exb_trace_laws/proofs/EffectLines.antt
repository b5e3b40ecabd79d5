-- What is told of an effect: each word that is put on a link, and each frame that leaves, has its line.
use Rattle.std.proofs.Common.{◌≡◌, ◌≢◌, ℕ, zero, suc, ◌%◌, ◌<◌, ◌==◌, ◌&&◌, ◌||◌, nat_lt, nat_le, Bool, true, false, not, List, [], ◌∷◌, ◌++◌, slice_index, append_assoc, append-nil, Some, None, refl, ap, sym, ◌∙◌, subst, arith, inl, inr}
use Rattle.std.proofs.lemmas.Bool.{cases_Bool, cases_eq, and_parts, and_from, eqb-true, eq-eqb, ne_eqb, ltb-true, lt-ltb, le-leb, false≢true}
use Rattle.std.proofs.lemmas.List.Concat.{flat_map-append}
use Rattle.exb_model.specs.declared.event.Event.{Event}
use Rattle.exb_model.specs.Tree.{Shape, IsTree, device, on, is_extender, is_port, is_cascade, is_external, any_below, port_number}
use Rattle.exb_link.specs.declared.link_frame.LinkFrame.{LinkFrame}
use Rattle.exb_world_spec.specs.Worlds.{World, Way, Up, Down, Left, Line, push_down, push_up}
use Rattle.exb_world_spec.specs.Effects.{Effect, sending, leaving, then_do, each}
use Rattle.exb_world_spec.specs.ExtenderSteps.{hung_below, hung_on}
use Rattle.exb_world_spec.specs.Steps.{words_on}
use Rattle.exb_world_spec.specs.Runs.Sessions.{Each}
use Rattle.exb_world_spec.proofs.LinkFrames.{at_here, at_other, each_append}
use Rattle.exb_world_spec.proofs.Trunks.{hangs_there, hung_found}
use Rattle.exb_model.specs.Traces.{TraceLine, Out}
use Rattle.exb_world_spec.specs.TraceLines.{told, all_told}
use Rattle.exb_trace_spec.specs.Rule1Places.{is_place}
use Rattle.exb_trace_laws.specs.LinkEnds.{start_of}
use Rattle.exb_trace_spec.specs.Rule3Links.{Place, place_of, upstream_of, if_at, out_at, outs}
use Rattle.exb_trace_laws.specs.TraceRelation.{bytes_of, outputs_of}

-- ---- places
not_both : (a b : Bool) → (a ≡ true → b ≡ true → ⊥) → (a && b) ≡ false
not_both true true n = absurd (n refl refl)
not_both true false n = refl
not_both false b n = refl

at_there : (p q : ℕ) → device q ≡ device p → port_number q ≡ port_number p → q ≡ p
at_there p q d k = omega arith

-- a frame at a port, seen from a place
pub at_port : (p q : ℕ) (f : List ℕ) → q ≡ p → if_at (place_of p) (device q) (port_number q) f ≡ f ∷ []
at_port p q f e = rw (eq-eqb (device q) (device p) (ap device e), eq-eqb (port_number q) (port_number p) (ap port_number e)) refl

pub at_other_port : (p q : ℕ) (f : List ℕ) → q ≢ p → if_at (place_of p) (device q) (port_number q) f ≡ []
at_other_port p q f ne =
    rw (not_both (device q == device p) (port_number q == port_number p) (λ d k. ne (at_there p q (eqb-true _ _ d) (eqb-true _ _ k)))) refl

pub port_not_up : (n q : ℕ) (f : List ℕ) → if_at (upstream_of n) (device q) (port_number q) f ≡ []
port_not_up n q f = rw (not_both (device q == n) (port_number q == 0) (λ d k. (let e : port_number q ≡ 0 = eqb-true _ _ k in omega arith))) refl

pub up_not_port : (p n : ℕ) (f : List ℕ) → if_at (place_of p) n 0 f ≡ []
up_not_port p n f = rw (not_both (n == device p) (0 == port_number p) (λ d k. (let e : 0 ≡ port_number p = eqb-true _ _ k in omega arith))) refl

pub at_upstream : (n m : ℕ) (f : List ℕ) → m ≡ n → if_at (upstream_of n) m 0 f ≡ f ∷ []
at_upstream n m f e = rw (eq-eqb m n e) refl

pub other_upstream : (n m : ℕ) (f : List ℕ) → m ≢ n → if_at (upstream_of n) m 0 f ≡ []
other_upstream n m f ne = rw (ne_eqb m n ne) refl

-- ---- ports of the tree
from_not : (b : Bool) → not b ≡ true → b ≡ false
from_not true e = absurd (false≢true e)
from_not false e = refl

both_ways : (b : Bool) → b ≡ true → b ≡ false → ⊥
both_ways b x y = cc

-- a port of the tree is a place
pub port_is_place : (t : Shape) (p : ℕ) → is_port t p ≡ true → is_place t (device p) (port_number p) ≡ true
port_is_place t p h =
    let l : p % 64 < slice_index t.ports (device p) = ltb-true _ _ h in
    elim (cases_eq (device p) 0) [
      | inl z ↦
          let m : p % 64 < slice_index t.ports 0 = subst (λ (d : ℕ). p % 64 < slice_index t.ports d) z l in
          rw (eq-eqb (device p) 0 z) (and_from (nat_lt 0 (port_number p)) (nat_le (port_number p) (slice_index t.ports 0)) (lt-ltb 0 (port_number p) (omega arith)) (le-leb (port_number p) (slice_index t.ports 0) (omega arith)))
      | inr z ↦
          rw (ne_eqb (device p) 0 z) (and_from (is_extender t (device p)) (nat_le (port_number p) (slice_index t.ports (device p)))
          (and_from (nat_lt 0 (device p)) (nat_lt 0 (slice_index t.ports (device p))) (lt-ltb 0 (device p) (omega arith)) (lt-ltb 0 (slice_index t.ports (device p)) (omega arith)))
          (le-leb (port_number p) (slice_index t.ports (device p)) (omega arith)))
    ]

pub upstream_is_place : (t : Shape) (n : ℕ) → is_extender t n ≡ true → is_place t n 0 ≡ true
upstream_is_place t n h =
    let some : 0 < n = ltb-true _ _ (and_parts (nat_lt 0 n) (nat_lt 0 (slice_index t.ports n)) h).0 in
    rw (ne_eqb n 0 (λ e. omega arith)) (and_from (is_extender t n) (nat_le 0 (slice_index t.ports n)) h (le-leb 0 (slice_index t.ports n) (omega arith)))

-- on an external port nobody hangs
any_hung : (t : Shape) (p k n : ℕ) → hung_below t p k ≡ Some n → any_below (λ m. is_extender t m && on t m == p) k ≡ true
unfolding hung_below any_below
any_hung t p zero n e = absurd (none_some e)
  where
    none_some : {x : ℕ} → None ≡ Some x → ⊥
    none_some f = cc
any_hung t p (suc k) n e =
    elim (cases_Bool (is_extender t k && on t k == p)) [
      | inl y ↦ or_true (any_below (λ m. is_extender t m && on t m == p) k) (is_extender t k && on t k == p) y
      | inr y ↦ or_left (any_below (λ m. is_extender t m && on t m == p) k) (is_extender t k && on t k == p) (any_hung t p k n (rw y at e))
    ]
  where
    or_true : (a b : Bool) → b ≡ true → (a || b) ≡ true
    or_true true b f = refl
    or_true false b f = f

    or_left : (a b : Bool) → a ≡ true → (a || b) ≡ true
    or_left true b f = refl
    or_left false b f = absurd (false≢true f)

none_hung : (t : Shape) (p k : ℕ) → hung_below t p k ≡ None → any_below (λ m. is_extender t m && on t m == p) k ≡ false
unfolding hung_below any_below
none_hung t p zero e = refl
none_hung t p (suc k) e =
    elim (cases_Bool (is_extender t k && on t k == p)) [
      | inl y ↦ absurd (some_none (rw y at e))
      | inr y ↦ rw (y, none_hung t p k (rw y at e)) refl
    ]
  where
    some_none : {x : ℕ} → Some x ≡ None → ⊥
    some_none f = cc

pub nobody_hangs : (t : Shape) (p : ℕ) → hung_on t p ≡ None → is_port t p ≡ true → is_external t p ≡ true
unfolding is_cascade
nobody_hangs t p e h = and_from (is_port t p) (not (is_cascade t p)) h (rw (none_hung t p 65 e) refl)

pub not_on_external : (t : Shape) → IsTree t → (n p : ℕ) → is_extender t n ≡ true → is_external t p ≡ true → on t n ≢ p
unfolding is_cascade
not_on_external t tree n p there out same =
    let found : hung_on t p ≡ Some n = hung_found t tree n p (let h = hangs_there t n there in record { extender = h.extender; there = h.there; at = same }) in
    both_ways (is_cascade t p) (any_hung t p 65 n found) (from_not (is_cascade t p) (and_parts (is_port t p) (not (is_cascade t p)) out).1)

pub on_is_port : (t : Shape) → IsTree t → (n : ℕ) → is_extender t n ≡ true → is_port t (on t n) ≡ true
on_is_port t tree n there = let h = hangs_there t n there in tree.on_port n h.extender h.there

pub not_on_same : (t : Shape) → IsTree t → (n m : ℕ) → is_extender t n ≡ true → is_extender t m ≡ true → n ≢ m → on t n ≢ on t m
not_on_same t tree n m a b ne same =
    let h = hangs_there t n a in
    ne (tree.alone n m (on t m) (record { extender = h.extender; there = h.there; at = same }) (hangs_there t m b))

-- ---- what is put on links
pub record HasPut (old new : List LinkFrame) (frames : List (List ℕ)) : Type 0 where
  pub words : List LinkFrame
  pub is : new ≡ old ++ words
  pub bytes : bytes_of words ≡ frames

pub put_none : (ws : List LinkFrame) → HasPut ws ws []
put_none ws = record { words = []; is = sym (append-nil ws); bytes = refl }

bytes_append : (xs ys : List LinkFrame) → bytes_of (xs ++ ys) ≡ bytes_of xs ++ bytes_of ys
bytes_append [] ys = refl
bytes_append (x ∷ xs) ys = ap (λ zs. x.bytes ∷ zs) (bytes_append xs ys)

put_then : (a b c : List LinkFrame) (fs gs : List (List ℕ)) → HasPut a b fs → HasPut b c gs → HasPut a c (fs ++ gs)
put_then a b c fs gs k l =
    record {
      words = k.words ++ l.words;
      is = l.is ∙ ap (λ xs. xs ++ l.words) k.is ∙ append_assoc a k.words l.words;
      bytes = bytes_append k.words l.words ∙ ap (λ xs. xs ++ bytes_of l.words) k.bytes ∙ ap (λ xs. fs ++ xs) l.bytes;
    }

pub told_append : (xs ys : List Line) → all_told (xs ++ ys) ≡ all_told xs ++ all_told ys
told_append [] ys = refl
told_append (x ∷ xs) ys = ap (λ zs. told x ∷ zs) (told_append xs ys)

pub outs_append : (p : Place) (xs ys : List TraceLine) → outs p (xs ++ ys) ≡ outs p xs ++ outs p ys
outs_append p xs ys = flat_map-append (out_at p) xs ys

outs_told : (p : Place) (xs ys : List Line) → outs p (all_told (xs ++ ys)) ≡ outs p (all_told xs) ++ outs p (all_told ys)
outs_told p xs ys = ap (outs p) (told_append xs ys) ∙ outs_append p (all_told xs) (all_told ys)

pub outputs_append : (xs ys : List Left) (p : ℕ) → outputs_of (xs ++ ys) p ≡ outputs_of xs p ++ outputs_of ys p
outputs_append [] ys p = refl
outputs_append (x ∷ xs) ys p = elim (cases_Bool (x.port == p)) [ inl e ↦ rw e (ap (λ zs. x.bytes ∷ zs) (outputs_append xs ys p)) | inr e ↦ rw e (outputs_append xs ys p) ]

-- ---- effects
abbrev pub Any : Event → Type 0
Any e = Unit {0}

module _ (t : Shape) (C : TraceLine → Type 0) (D : Event → Type 0) where
  -- Each word that it puts on a link and each frame that leaves has its line, and there is no other; C holds of each
  -- line, and D of each event.
  pub record Shows (w : World) (e : Effect) : Type 0 where
    pub puts : (n : ℕ) (way : Way) → is_extender t n ≡ true → HasPut (words_on n way w) (words_on n way e.world) (outs (start_of t n way) (all_told e.outs))
    pub leaves : (p : ℕ) → is_external t p ≡ true → outs (place_of p) (all_told e.outs) ≡ outputs_of e.left p
    pub lines : Each C (all_told e.outs)
    pub happens : Each D e.events
    -- the indices that ports await stay
    pub next : e.world.next ≡ w.next

  -- and the extenders stay as they are
  pub record Tells (w : World) (e : Effect) : Type 0 where
    pub shows : Shows w e
    pub far : e.world.far ≡ w.far

  pub shows_then : (w : World) (e : Effect) (f : World → Effect) → Shows w e → Shows e.world (f e.world) → Shows w (then_do e f)
  shows_then w e f k l =
      record {
        puts = λ n way there.
            subst (λ zs. HasPut (words_on n way w) (words_on n way (f e.world).world) zs) (sym (outs_told (start_of t n way) e.outs (f e.world).outs))
            (put_then (words_on n way w) (words_on n way e.world) (words_on n way (f e.world).world) (outs (start_of t n way) (all_told e.outs)) (outs (start_of t n way) (all_told (f e.world).outs)) (k.puts n way there) (l.puts n way there));
        leaves = λ p out.
            outs_told (place_of p) e.outs (f e.world).outs ∙ ap (λ zs. zs ++ outs (place_of p) (all_told (f e.world).outs)) (k.leaves p out)
            ∙ ap (λ zs. outputs_of e.left p ++ zs) (l.leaves p out) ∙ sym (outputs_append e.left (f e.world).left p);
        lines = subst (λ zs. Each C zs) (sym (told_append e.outs (f e.world).outs)) (each_append C (all_told e.outs) (all_told (f e.world).outs) k.lines l.lines);
        happens = each_append D e.events (f e.world).events k.happens l.happens;
        next = l.next ∙ k.next;
      }

  pub tells_then : (w : World) (e : Effect) (f : World → Effect) → Tells w e → Tells e.world (f e.world) → Tells w (then_do e f)
  tells_then w e f k l = record { shows = shows_then w e f k.shows l.shows; far = l.far ∙ k.far }

  -- nothing is told
  pub shows_none : (w : World) (e : Effect) → e.world.down ≡ w.down → e.world.up ≡ w.up → e.world.next ≡ w.next → e.outs ≡ [] → e.left ≡ [] → Each D e.events → Shows w e
  shows_none w e down up next outs_none left_none happens =
      record {
        puts = λ n way there. (let P : List Line → Type 0 = λ ls. HasPut (words_on n way w) (words_on n way e.world) (outs (start_of t n way) (all_told ls)) in subst P (sym outs_none) (by_way n way));
        leaves = λ p out. ap (λ (ls : List Line). outs (place_of p) (all_told ls)) outs_none ∙ ap (λ (ls : List Left). outputs_of ls p) (sym left_none);
        lines = (let P : List Line → Type 0 = λ ls. Each C (all_told ls) in subst P (sym outs_none) tt);
        happens = happens;
        next = next;
      }
    where
      by_way : (n : ℕ) (way : Way) → HasPut (words_on n way w) (words_on n way e.world) []
      by_way n Up = let P : (ℕ → List LinkFrame) → Type 0 = λ g. HasPut (w.up n) (g n) [] in subst P (sym up) (put_none (w.up n))
      by_way n Down = let P : (ℕ → List LinkFrame) → Type 0 = λ g. HasPut (w.down n) (g n) [] in subst P (sym down) (put_none (w.down n))

  pub tells_none : (w : World) (e : Effect) → e.world.down ≡ w.down → e.world.up ≡ w.up → e.world.next ≡ w.next → e.outs ≡ [] → e.left ≡ [] → Each D e.events → e.world.far ≡ w.far → Tells w e
  tells_none w e down up next outs_none left_none happens far = record { shows = shows_none w e down up next outs_none left_none happens; far = far }

  -- from a world with the same words
  pub shows_from : (w v : World) (e : Effect) → v.down ≡ w.down → v.up ≡ w.up → v.next ≡ w.next → Shows v e → Shows w e
  shows_from w v e down up next k =
      record {
        puts = λ n way there. by_way n way (k.puts n way there);
        leaves = k.leaves;
        lines = k.lines;
        happens = k.happens;
        next = k.next ∙ next;
      }
    where
      by_way : (n : ℕ) (way : Way) → HasPut (words_on n way v) (words_on n way e.world) (outs (start_of t n way) (all_told e.outs)) → HasPut (words_on n way w) (words_on n way e.world) (outs (start_of t n way) (all_told e.outs))
      by_way n Up h = let P : (ℕ → List LinkFrame) → Type 0 = λ g. HasPut (g n) (e.world.up n) (outs (start_of t n Up) (all_told e.outs)) in subst P up h
      by_way n Down h = let P : (ℕ → List LinkFrame) → Type 0 = λ g. HasPut (g n) (e.world.down n) (outs (start_of t n Down) (all_told e.outs)) in subst P down h

  pub tells_from : (w v : World) (e : Effect) → v.down ≡ w.down → v.up ≡ w.up → v.next ≡ w.next → v.far ≡ w.far → Tells v e → Tells w e
  tells_from w v e down up next far k = record { shows = shows_from w v e down up next k.shows; far = k.far ∙ far }

  pub tells_each : {A : Type 0} (R : A → Type 0) (S : World → Type 0) (f : A → World → Effect) (xs : List A) (w : World) → ((x : A) (v : World) → R x → S v → Tells v (f x v) × S (f x v).world) → S w → Each R xs → Tells w (each f xs w)
  tells_each R S f [] w does s all = tells_none w (each f [] w) refl refl refl refl refl tt refl
  tells_each R S f (x ∷ xs) w does s all =
      let one = does x w all.0 s in
      tells_then w (f x w) (each f xs) one.0 (tells_each R S f xs (f x w).world does one.1 all.1)

  pub shows_each : {A : Type 0} (S : World → Type 0) (f : A → World → Effect) (xs : List A) (w : World) → ((x : A) (v : World) → S v → Shows v (f x v) × S (f x v).world) → S w → Shows w (each f xs w) × S (each f xs w).world
  shows_each S f [] w does s = (shows_none w (each f [] w) refl refl refl refl refl tt, s)
  shows_each S f (x ∷ xs) w does s =
      let one = does x w s in
      let rest = shows_each S f xs (f x w).world does one.1 in
      (shows_then w (f x w) (each f xs) one.0 rest.0, rest.1)

  -- ---- words that are put
  module _ (tree : IsTree t) where
    -- down to extender m
    pub put_down : (m : ℕ) (x : LinkFrame) (line : Line) (w : World) → is_extender t m ≡ true → told line ≡ Out (device (on t m)) (port_number (on t m)) x.bytes → C (told line) → Tells w (sending line (push_down m x w))
    put_down m x line w there is holds =
        record {
          shows = record {
            puts = λ n way its. (let P : TraceLine → Type 0 = λ z. HasPut (words_on n way w) (words_on n way (push_down m x w)) (outs (start_of t n way) (z ∷ [])) in subst P (sym is) (by_way n way its));
            leaves = λ p out. (let P : TraceLine → Type 0 = λ z. outs (place_of p) (z ∷ []) ≡ [] in subst P (sym is) (by_port p out));
            lines = (holds, tt);
            happens = tt;
            next = refl;
          };
          far = refl;
        }
      where
        by_port : (p : ℕ) → is_external t p ≡ true → outs (place_of p) (Out (device (on t m)) (port_number (on t m)) x.bytes ∷ []) ≡ []
        by_port p out = rw (at_other_port p (on t m) x.bytes (not_on_external t tree m p there out)) refl

        by_way : (n : ℕ) (way : Way) → is_extender t n ≡ true → HasPut (words_on n way w) (words_on n way (push_down m x w)) (outs (start_of t n way) (Out (device (on t m)) (port_number (on t m)) x.bytes ∷ []))
        by_way n Up its = rw (port_not_up n (on t m) x.bytes) (put_none (w.up n))
        by_way n Down its =
            elim (cases_eq n m) [
              | inl e ↦
                  let here : (push_down m x w).down n ≡ w.down n ++ x ∷ [] = subst (λ (i : ℕ). (push_down m x w).down i ≡ w.down i ++ x ∷ []) (sym e) (at_here m (w.down m ++ x ∷ []) w.down) in
                  rw (at_port (on t n) (on t m) x.bytes (ap (on t) (sym e))) (record { words = x ∷ []; is = here; bytes = refl })
              | inr ne ↦
                  let same : (push_down m x w).down n ≡ w.down n = at_other m n (w.down m ++ x ∷ []) w.down ne in
                  rw (at_other_port (on t n) (on t m) x.bytes (λ e. not_on_same t tree n m its there ne (sym e)))
                  (subst (λ zs. HasPut (w.down n) zs []) (sym same) (put_none (w.down n)))
            ]

    -- up from extender m
    pub put_up : (m : ℕ) (x : LinkFrame) (line : Line) (w : World) → told line ≡ Out m 0 x.bytes → C (told line) → Tells w (sending line (push_up m x w))
    put_up m x line w is holds =
        record {
          shows = record {
            puts = λ n way its. (let P : TraceLine → Type 0 = λ z. HasPut (words_on n way w) (words_on n way (push_up m x w)) (outs (start_of t n way) (z ∷ [])) in subst P (sym is) (by_way n way));
            leaves = λ p out. (let P : TraceLine → Type 0 = λ z. outs (place_of p) (z ∷ []) ≡ [] in subst P (sym is) (rw (up_not_port p m x.bytes) refl));
            lines = (holds, tt);
            happens = tt;
            next = refl;
          };
          far = refl;
        }
      where
        by_way : (n : ℕ) (way : Way) → HasPut (words_on n way w) (words_on n way (push_up m x w)) (outs (start_of t n way) (Out m 0 x.bytes ∷ []))
        by_way n Down = rw (up_not_port (on t n) m x.bytes) (put_none (w.down n))
        by_way n Up =
            elim (cases_eq n m) [
              | inl e ↦
                  let here : (push_up m x w).up n ≡ w.up n ++ x ∷ [] = subst (λ (i : ℕ). (push_up m x w).up i ≡ w.up i ++ x ∷ []) (sym e) (at_here m (w.up m ++ x ∷ []) w.up) in
                  rw (at_upstream n m x.bytes (sym e)) (record { words = x ∷ []; is = here; bytes = refl })
              | inr ne ↦
                  let same : (push_up m x w).up n ≡ w.up n = at_other m n (w.up m ++ x ∷ []) w.up ne in
                  rw (other_upstream n m x.bytes (λ e. ne (sym e))) (subst (λ zs. HasPut (w.up n) zs []) (sym same) (put_none (w.up n)))
            ]

    -- a frame leaves
    pub let_out : (x : Left) (line : Line) (w : World) → is_external t x.port ≡ true → told line ≡ Out (device x.port) (port_number x.port) x.bytes → C (told line) → Tells w (leaving line x w)
    let_out x line w out is holds =
        record {
          shows = record {
            puts = λ n way its. (let P : TraceLine → Type 0 = λ z. HasPut (words_on n way w) (words_on n way w) (outs (start_of t n way) (z ∷ [])) in subst P (sym is) (by_way n way its));
            leaves = λ p its. (let P : TraceLine → Type 0 = λ z. outs (place_of p) (z ∷ []) ≡ outputs_of (x ∷ []) p in subst P (sym is) (by_port p));
            lines = (holds, tt);
            happens = tt;
            next = refl;
          };
          far = refl;
        }
      where
        by_port : (p : ℕ) → outs (place_of p) (Out (device x.port) (port_number x.port) x.bytes ∷ []) ≡ outputs_of (x ∷ []) p
        by_port p = elim (cases_eq x.port p) [
          | inl e ↦ rw (at_port p x.port x.bytes e, eq-eqb x.port p e) refl
          | inr ne ↦ rw (at_other_port p x.port x.bytes ne, ne_eqb x.port p ne) refl
        ]

        by_way : (n : ℕ) (way : Way) → is_extender t n ≡ true → HasPut (words_on n way w) (words_on n way w) (outs (start_of t n way) (Out (device x.port) (port_number x.port) x.bytes ∷ []))
        by_way n Up its = rw (port_not_up n x.port x.bytes) (put_none (w.up n))
        by_way n Down its = rw (at_other_port (on t n) x.port x.bytes (λ e. not_on_external t tree n x.port its out (sym e))) (put_none (w.down n))
