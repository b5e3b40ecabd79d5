-- All that is drawn, one part after another.
use Rattle.std.proofs.Common.{◌≡◌, ◌∙◌, ℕ, zero, suc, ◌+◌, ◌*◌, ◌≤◌, List, [], ◌++◌, length, All, AllPairs, sym, ap, subst, refl, arith}
use Rattle.std.specs.List.{range_with_len}
use Rattle.std.proofs.lemmas.List.Elements.{All-nil, All-cons}
use Rattle.std.proofs.lemmas.List.FromFn.{length-range_with_len}
use Rattle.std.proofs.lemmas.List.Kept.{AllPairs-cons}
use Rattle.exb_model.specs.declared.command.Command.{Command}
use Rattle.exb_model.specs.declared.setup.Timed.{Timed}
use Rattle.exb_model.specs.Ports.{below}
use Rattle.exb_model.specs.Setup.{NamesExternal, shape_of}
use Rattle.exb_model.specs.Tree.{Shape}
use Rattle.rand_pcg.specs.Lcg.{Lcg}
use Rattle.exb_make.specs.Draws.{Adds, drawn, for_each}
use Rattle.exb_make.specs.GeneratedTree.{site, setup_with}
use Rattle.exb_make.specs.DrawOrder.{Frame, memberships, pvids, membership_command, order, orders, frames}
use Rattle.exb_make.specs.GeneratedInputs.{Drawn, all_drawn}
use Rattle.exb_make.proofs.DrawLoops.{each-all, length-each}
use Rattle.exb_make.proofs.ArrivingFrames.{external_at}
use Rattle.exb_make.proofs.GeneratedTree.{shape-is}

abbrev pub drawn_with : List Command → List Timed → List Frame → Drawn
drawn_with s o f = record { start = s; commands = o; frames = f }

drawn-same : (s t : List Command) (o p : List Timed) (f h : List Frame) → s ≡ t → o ≡ p → f ≡ h → drawn_with s o f ≡ drawn_with t p h
drawn-same s t o p f h a b c = ap (λ x. drawn_with x o f) a ∙ (ap (λ x. drawn_with t x f) b ∙ ap (λ x. drawn_with t p x) c)

pub drawn-whole : (g g1 g2 g3 g4 : Lcg) (s1 s2 : List Command) (o : List Timed) (f : List Frame) → Adds memberships [] s1 g g1 → Adds pvids s1 s2 g1 g2 → Adds orders [] o g2 g3 → Adds frames [] f g3 g4 →
    drawn_with s2 o f ≡ all_drawn g
unfolding all_drawn
drawn-whole g g1 g2 g3 g4 s1 s2 o f joined ruled ordered arrived =
    let h1 = joined.gone_on in
    let h2 = ruled.gone_on ∙ ap (λ (h : Lcg). (pvids h).1) h1 in
    let h3 = ordered.gone_on ∙ ap (λ (h : Lcg). (orders h).1) h2 in
    let start = ruled.more ∙ (ap (λ xs. xs ++ (pvids g1).0) joined.more ∙ ap (λ (h : Lcg). (memberships g).0 ++ (pvids h).0) h1) in
    let commands = ordered.more ∙ ap (λ (h : Lcg). (orders h).0) h2 in
    let frames_there = arrived.more ∙ ap (λ (h : Lcg). (frames h).0) h3 in
    drawn-same s2 _ o _ f _ start commands frames_there

-- no command has a fate
order-plain : (j : ℕ) (g : Lcg) → Unit {0} → All (λ (t : Timed). t.fate ≡ []) (order j g).0
unfolding order
order-plain j g _ = All-cons (λ (t : Timed). t.fate ≡ []) _ [] refl (All-nil (λ (t : Timed). t.fate ≡ []))

pub all_plain : (g : Lcg) → All (λ (t : Timed). t.fate ≡ []) (all_drawn g).commands
unfolding all_drawn orders
all_plain g = each-all order (λ (t : Timed). t.fate ≡ []) (λ j. Unit {0}) order-plain (below 20) (λ k d l. tt) (pvids (memberships g).1).1

-- each names an external port
membership-named : (g : Lcg) → NamesExternal site (membership_command g).0
unfolding membership_command
membership-named g = external_at (drawn 4 g).1

order-named : (j : ℕ) (g : Lcg) → Unit {0} → All (λ (t : Timed). NamesExternal site t.command) (order j g).0
unfolding order
order-named j g _ = All-cons (λ (t : Timed). NamesExternal site t.command) _ [] (membership-named g) (All-nil (λ (t : Timed). NamesExternal site t.command))

pub all_named : (g : Lcg) → All (λ (t : Timed). NamesExternal (shape_of (setup_with (all_drawn g).start)) t.command) (all_drawn g).commands
unfolding all_drawn orders
all_named g =
    subst (λ (s : Shape). All (λ (t : Timed). NamesExternal s t.command) (all_drawn g).commands) (sym (shape-is (all_drawn g).start))
    (each-all order (λ (t : Timed). NamesExternal site t.command) (λ j. Unit {0}) order-named (below 20) (λ k d l. tt) (pvids (memberships g).1).1)

-- there are twenty
order-one : (j : ℕ) (g : Lcg) → length (order j g).0 ≡ 1
unfolding order
order-one j g = refl

pub length-orders : (g : Lcg) → length (all_drawn g).commands ≡ 20
unfolding all_drawn orders below
length-orders g = length-each order order-one (range_with_len 0 20) (pvids (memberships g).1).1 ∙ length-range_with_len 0 20

-- their seconds never fall
abbrev pub Later : Timed → Timed → Type 0
Later a b = a.at ≤ b.at

order-late : (least j : ℕ) (g : Lcg) → least ≤ j → All (λ (t : Timed). 5 * least ≤ t.at) (order j g).0
unfolding order
order-late least j g h = All-cons (λ (t : Timed). 5 * least ≤ t.at) _ [] (omega arith) (All-nil (λ (t : Timed). 5 * least ≤ t.at))

range-high : (least a n : ℕ) → least ≤ a → All (λ k. least ≤ k) (range_with_len a n)
range-high least a zero h = All-nil (λ k. least ≤ k)
range-high least a (suc n) h = All-cons (λ k. least ≤ k) a (range_with_len (a + 1) n) h (range-high least (a + 1) n (omega arith))

orders-rise : (a n : ℕ) (g : Lcg) → AllPairs Later (for_each order (range_with_len a n) g).0
unfolding for_each order
orders-rise a zero g = λ i j d l h. absurd (omega arith)
orders-rise a (suc n) g =
    let h = (membership_command g).1 in
    AllPairs-cons Later (record { at = 5 * a; command = (membership_command g).0; fate = [] }) (for_each order (range_with_len (a + 1) n) h).0
    (each-all order (λ (t : Timed). 5 * a ≤ t.at) (λ j. a ≤ j) (λ j k l. order-late a j k l) (range_with_len (a + 1) n) (range-high a (a + 1) n (omega arith)) h)
    (orders-rise (a + 1) n h)

pub all_rise : (g : Lcg) → AllPairs Later (all_drawn g).commands
unfolding all_drawn orders below
all_rise g = orders-rise 0 20 (pvids (memberships g).1).1
