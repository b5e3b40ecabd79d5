-- Words that are put on links.
use Rattle.std.proofs.Common.{◌≡◌, ℕ, ◌<◌, ◌≤◌, ◌++◌, true, List, [], ◌∷◌, Option, Some, None, refl, sym, ◌∙◌, subst, arith, inl, inr}
use Rattle.std.proofs.lemmas.Bool.{cases_lt, lt-ltb, le-ltb}
use Rattle.exb_model.specs.Tree.{Shape, HangsOn, IsTree, device, on, is_extender, trunk}
use Rattle.exb_model.specs.ETags.{tagged}
use Rattle.exb_csp.specs.declared.message.Body.{Body}
use Rattle.exb_extender.specs.declared.sends.Side.{Side}
use Rattle.exb_extender.specs.declared.sends.Side.TheVariants as side
use Rattle.exb_csp.specs.AllTables.{port_of}
use Rattle.exb_extender.specs.Forwarding.{Sent, is_bare_control, channel_tag}
use Rattle.exb_link.specs.declared.link_frame.Stamp.{Stamp}
use Rattle.exb_link.specs.declared.link_frame.LinkFrame.{LinkFrame}
use Rattle.exb_model.proofs.TreeTrunks.{trunk-low}
use Rattle.exb_control_spec.specs.Plans.HeldNumbers.{Held, channel_in}
use Rattle.exb_control_spec.proofs.Plans.ChannelOwners.{IsChannelOf, channel_found}
use Rattle.exb_world_spec.specs.Worlds.{World, push_down, push_up, control_word}
use Rattle.exb_world_spec.specs.Effects.{Effect, only, then_do, each}
use Rattle.exb_world_spec.specs.ExtenderSteps.{hung_on, sent_at, sent_to, sends}
use Rattle.exb_world_spec.specs.BridgeLearning.{channel_at_trunk}
use Rattle.exb_world_spec.specs.ControlFrames.{puts_tagged, to_extender}
use Rattle.exb_world_spec.specs.Runs.Sessions.{Hands, Each, IsFrameOn, FitsOn, WordFits, LinksFit, KeepsCascades}
use Rattle.exb_world_spec.proofs.ExtenderAnswers.{hands_weaker}
use Rattle.exb_world_spec.proofs.Trunks.{trunk_low_on, trunk_above, above_there, hung_is}
use Rattle.exb_world_spec.proofs.LinkFrames.{each_append, each_weaker, at_same}

-- ---- parts of a world that sending leaves
pub record HasHeart (w v : World) : Type 0 where
  pub control : v.control ≡ w.control
  pub near : v.near ≡ w.near
  pub far : v.far ≡ w.far

pub same_heart : (w : World) → HasHeart w w
same_heart w = record { control = refl; near = refl; far = refl }

pub heart_then : (a b c : World) → HasHeart a b → HasHeart b c → HasHeart a c
heart_then a b c f g = record { control = g.control ∙ f.control; near = g.near ∙ f.near; far = g.far ∙ f.far }

-- ---- other sessions and numbers
way_kept : (t : Shape) (h g : Held) (m : ℕ) (f : List ℕ) (n : ℕ) (c : List ℕ) → KeepsCascades t h g → is_extender t n ≡ true → IsFrameOn t h m f n c → IsFrameOn t g m f n c
way_kept t h g m f n c keeps there (inl k) = inl k
way_kept t h g m f n c keeps there (inr k) =
    let here : h.port (trunk t n) k.channel ≡ Some (on t n) = subst (λ (i : ℕ). h.port i k.channel ≡ Some (on t n)) k.home k.holds in
    let after : g.port (trunk t m) k.channel ≡ Some (on t n) = subst (λ (i : ℕ). g.port i k.channel ≡ Some (on t n)) (sym k.home) (keeps n k.channel there k.deep k.some here) in
    inr (record { channel = k.channel; some = k.some; small = k.small; frame = k.frame; deep = k.deep; home = k.home; holds = after })

pub fits_kept : (t : Shape) (h g : Held) (P Q : ℕ → ℕ → Body → Type 0) (m : ℕ) (f : List ℕ) → KeepsCascades t h g → ((n serial : ℕ) (b : Body) → P n serial b → Q n serial b) → FitsOn t h P m f → FitsOn t g Q m f
fits_kept t h g P Q m f keeps weaker fits control =
    let k = fits control in
    record {
      of = k.of;
      frame = k.frame;
      there = k.there;
      bare = k.bare;
      way = way_kept t h g m f k.of k.frame keeps k.there k.way;
      fits = hands_weaker (P k.of) (Q k.of) k.frame (weaker k.of) k.fits;
    }

pub links_kept : (t : Shape) (h g : Held) (P Q : ℕ → ℕ → Body → Type 0) (links : ℕ → List LinkFrame) → KeepsCascades t h g → ((n serial : ℕ) (b : Body) → P n serial b → Q n serial b) → LinksFit t h P links → LinksFit t g Q links
links_kept t h g P Q links keeps weaker fits m =
    each_weaker (WordFits t h P m) (WordFits t g Q m) (links m) (λ x k. fits_kept t h g P Q m x.bytes keeps weaker k) (fits m)

pub no_change : (t : Shape) (h : Held) → KeepsCascades t h h
no_change t h n channel there deep some e = e

-- ---- pushes
module _ (t : Shape) (h : Held) (P Q : ℕ → ℕ → Body → Type 0) where
  pub record AreLinked (w : World) : Type 0 where
    pub downs : LinksFit t h P w.down
    pub ups : LinksFit t h Q w.up

  pub record IsDone (w : World) (e : Effect) : Type 0 where
    pub heart : HasHeart w e.world
    pub linked : AreLinked e.world

  pub pushed_down : (m : ℕ) (x : LinkFrame) (w : World) → WordFits t h P m x → AreLinked w → AreLinked (push_down m x w)
  pushed_down m x w fits k =
      record {
        downs = at_same (λ n ws. Each (WordFits t h P n) ws) m (w.down m ++ x ∷ []) w.down (each_append (WordFits t h P m) (w.down m) (x ∷ []) (k.downs m) (fits, tt)) k.downs;
        ups = k.ups;
      }

  pub pushed_up : (m : ℕ) (x : LinkFrame) (w : World) → WordFits t h Q m x → AreLinked w → AreLinked (push_up m x w)
  pushed_up m x w fits k =
      record {
        downs = k.downs;
        ups = at_same (λ n ws. Each (WordFits t h Q n) ws) m (w.up m ++ x ∷ []) w.up (each_append (WordFits t h Q m) (w.up m) (x ∷ []) (k.ups m) (fits, tt)) k.ups;
      }

  pub none_done : (w : World) → AreLinked w → IsDone w (only w)
  none_done w k = record { heart = same_heart w; linked = k }

  pub done_then : (w : World) (e : Effect) (f : World → Effect) → IsDone w e → IsDone e.world (f e.world) → IsDone w (then_do e f)
  done_then w e f first second = record { heart = heart_then w e.world (f e.world).world first.heart second.heart; linked = second.linked }

  pub each_done : {A : Type 0} (R : A → Type 0) (f : A → World → Effect) (xs : List A) (w : World) → ((x : A) (v : World) → R x → HasHeart w v → AreLinked v → IsDone v (f x v)) →
      AreLinked w → Each R xs → IsDone w (each f xs w)
  each_done R f [] w does k all = none_done w k
  each_done R f (x ∷ xs) w does k all =
      let first : IsDone w (f x w) = does x w all.0 (same_heart w) k in
      let v : World = (f x w).world in
      done_then w (f x w) (each f xs) first (each_done R f xs v (λ y u r heart l. does y u r (heart_then w v u first.heart heart) l) first.linked all.1)

  -- ---- what an extender sends
  pub record SendFits (n : ℕ) (x : Sent) : Type 0 where
    pub rises : x.side ≡ side.Up → FitsOn t h Q n x.bytes
    pub sinks : (k m : ℕ) → x.side ≡ side.Port k → HangsOn t m (port_of n k) → FitsOn t h P m x.bytes

  sent_at_done : (n k : ℕ) (o : Option ℕ) (stamp : Option Stamp) (bytes : List ℕ) (w : World) → ((m : ℕ) → o ≡ Some m → FitsOn t h P m bytes) → AreLinked w → IsDone w (sent_at n k o stamp bytes w)
  sent_at_done n k None stamp bytes w fits l = record { heart = same_heart w; linked = l }
  sent_at_done n k (Some m) stamp bytes w fits l = record { heart = record { control = refl; near = refl; far = refl }; linked = pushed_down m (record { bytes = bytes; stamp = stamp }) w (fits m refl) l }

  sent_to_done : (n : ℕ) (stamp : Option Stamp) (s : Side) (bytes : List ℕ) (w : World) → SendFits n (record { side = s; bytes = bytes }) → AreLinked w → IsDone w (sent_to t n stamp s bytes w)
  sent_to_done n stamp side.Up bytes w fits l = record { heart = record { control = refl; near = refl; far = refl }; linked = pushed_up n (record { bytes = bytes; stamp = stamp }) w (fits.rises refl) l }
  sent_to_done n stamp (side.Port k) bytes w fits l =
      sent_at_done n k (hung_on t (port_of n k)) stamp bytes w (λ m e. fits.sinks k m refl (hung_is t (port_of n k) m e)) l

  pub sends_done : (n : ℕ) (stamp : Option Stamp) (x : Sent) (w : World) → SendFits n x → AreLinked w → IsDone w (sends t n stamp x w)
  sends_done n stamp x w fits l = sent_to_done n stamp x.side x.bytes w fits l

  -- ---- what the bridge sends to extender n
  pub own_word : (n : ℕ) (f : List ℕ) → is_extender t n ≡ true → is_bare_control f ≡ true → Hands f (P n) → FitsOn t h P n f
  own_word n f there bare hands control = record { of = n; frame = f; there = there; bare = bare; way = inl (refl, refl); fits = hands }

  pub tagged_word : IsTree t → (n m channel : ℕ) (f : List ℕ) → is_extender t n ≡ true → is_bare_control f ≡ true → Hands f (P n) → 64 ≤ on t n → HangsOn t m (trunk t n) → trunk t n < 64 →
      channel_in h (trunk t (device (on t n))) (on t n) ≡ Some channel → FitsOn t h P m (tagged f (channel_tag channel))
  tagged_word tree n m channel f there bare hands deep hangs low holds control =
      let is : IsChannelOf h (trunk t (device (on t n))) (on t n) channel = channel_found h (trunk t (device (on t n))) (on t n) channel holds in
      let same : trunk t (device (on t n)) ≡ trunk t m = trunk_above t tree n there deep ∙ sym (trunk_low_on t m (omega (arith, hangs.at)) ∙ hangs.at) in
      record {
        of = n;
        frame = f;
        there = there;
        bare = bare;
        way = inr (record {
          channel = channel;
          some = is.low;
          small = is.high;
          frame = refl;
          deep = deep;
          home = sym same ∙ trunk_above t tree n there deep;
          holds = subst (λ (k : ℕ). h.port k channel ≡ Some (on t n)) same is.is;
        });
        fits = hands;
      }

  puts_tagged_done : (k : ℕ) (o c : Option ℕ) (f : List ℕ) (w : World) → ((m channel : ℕ) → o ≡ Some m → c ≡ Some channel → FitsOn t h P m (tagged f (channel_tag channel))) → AreLinked w → IsDone w (puts_tagged k o c f w)
  puts_tagged_done k (Some m) (Some channel) f w fits l =
      record { heart = record { control = refl; near = refl; far = refl }; linked = pushed_down m (control_word (tagged f (channel_tag channel))) w (fits m channel refl refl) l }
  puts_tagged_done k (Some m) None f w fits l = none_done w l
  puts_tagged_done k None c f w fits l = none_done w l

  pub at_trunk : (n channel : ℕ) → is_extender t (device (on t n)) ≡ true → channel_at_trunk t h (on t n) ≡ Some channel → channel_in h (trunk t (device (on t n))) (on t n) ≡ Some channel
  at_trunk n channel above e = rw above at e

  pub to_extender_done : IsTree t → (n : ℕ) (f : List ℕ) (w : World) → is_extender t n ≡ true → is_bare_control f ≡ true → Hands f (P n) → w.control.held ≡ h → AreLinked w → IsDone w (to_extender t n f w)
  to_extender_done tree n f w there bare hands held l =
      elim (cases_lt (on t n) 64) [
        | inl low ↦
            rw (lt-ltb (on t n) 64 low)
            (record { heart = record { control = refl; near = refl; far = refl }; linked = pushed_down n (control_word f) w (own_word n f there bare hands) l })
        | inr deep ↦
            let R : Held → Type 0 = λ g. IsDone w (puts_tagged (trunk t n) (hung_on t (trunk t n)) (channel_at_trunk t g (on t n)) f w) in
            rw (le-ltb (on t n) 64 deep) (
            subst R (sym held)
            (puts_tagged_done (trunk t n) (hung_on t (trunk t n)) (channel_at_trunk t h (on t n)) f w
            (λ m channel e c. tagged_word tree n m channel f there bare hands deep (hung_is t (trunk t n) m e) (trunk-low t tree n there) (at_trunk n channel (above_there t tree n there deep) c)) l))
      ]
