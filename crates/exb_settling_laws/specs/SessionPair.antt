-- The bridge's end and an extender's end of one session, and the words between them.
use Rattle.std.specs.Prelude.{ℕ, ◌+◌, ◌==◌, Bool, true, false, ◌&&◌, List, [], ◌∷◌, ◌++◌, Option, Some, None, nat_lt}
use Rattle.exb_settling_laws.specs.StopAndWait.{Message, Request, Answer, Ack, Hello, Sending, End, is_got, submitted, unless_acked, aged, again, counted, hello_words}

-- the bridge's end: whether a request waits for its answer, its serial, the beats since it was asked, the words that
-- stand on the way down
pub record Near : Type 0 where
  pub link : End
  pub waits : Bool
  pub serial : ℕ
  pub beats : ℕ
  pub sent : List Message

-- the extender's end: the serial it executed last, the words that stand on the way up
pub record Far : Type 0 where
  pub link : End
  pub last : ℕ
  pub count : ℕ
  pub sent : List Message

pub record Pair : Type 0 where
  pub near : Near
  pub far : Far

abbrev pub push : List Message → Message → List Message
push ms m = ms ++ m ∷ []

abbrev pub with_sending : End → Option Sending → End
with_sending e o = record { next = e.next; sending = o; got = e.got }

abbrev pub with_got : End → ℕ → End
with_got e s = record { next = e.next; sending = e.sending; got = Some s }

-- the answer that waits is taken, and its request is sent no more
abbrev pub near_takes : Bool → Near → Near
near_takes true n = record {
  link = with_sending n.link None;
  waits = false;
  serial = n.serial;
  beats = 0;
  sent = n.sent;
}
near_takes false n = n

abbrev pub near_gets : Bool → Near → ℕ → ℕ → Near
near_gets true n s k = record {
  link = n.link;
  waits = n.waits;
  serial = n.serial;
  beats = n.beats;
  sent = push n.sent (Ack s);
}
near_gets false n s k =
    near_takes (n.waits && (k == n.serial)) (record {
      link = with_got n.link s;
      waits = n.waits;
      serial = n.serial;
      beats = n.beats;
      sent = push n.sent (Ack s);
    })

abbrev pub near_hears : Near → Message → Near
near_hears n (Request s k) = n
near_hears n (Answer s k) = near_gets (is_got n.link.got s) n s k
near_hears n (Ack s) = record {
  link = with_sending n.link (unless_acked s n.link.sending);
  waits = n.waits;
  serial = n.serial;
  beats = n.beats;
  sent = n.sent;
}
near_hears n Hello = n

abbrev pub near_all : Near → List Message → Near
near_all n [] = n
near_all n (m ∷ ms) = near_all (near_hears n m) ms

-- serial k is answered
abbrev pub far_answers : Far → ℕ → Far
far_answers f k = record {
  link = submitted k f.link;
  last = k;
  count = f.count;
  sent = push f.sent (Answer f.link.next k);
}

abbrev pub far_again : Bool → Far → ℕ → Far
far_again true f k = far_answers f k
far_again false f k = f

abbrev pub far_takes : Bool → Far → ℕ → Far
far_takes true f k = far_answers f k
far_takes false f k = far_again ((k == f.last) && nat_lt 0 f.last) f k

abbrev pub far_gets : Bool → Far → ℕ → ℕ → Far
far_gets true f s k = record { link = f.link; last = f.last; count = f.count; sent = push f.sent (Ack s) }
far_gets false f s k = far_takes (k == f.last + 1) (record {
  link = with_got f.link s;
  last = f.last;
  count = f.count;
  sent = push f.sent (Ack s);
}) k

abbrev pub far_hears : Far → Message → Far
far_hears f (Request s k) = far_gets (is_got f.link.got s) f s k
far_hears f (Answer s k) = f
far_hears f (Ack s) = record {
  link = with_sending f.link (unless_acked s f.link.sending);
  last = f.last;
  count = f.count;
  sent = f.sent;
}
far_hears f Hello = f

abbrev pub far_all : Far → List Message → Far
far_all f [] = f
far_all f (m ∷ ms) = far_all (far_hears f m) ms

-- at the sixteenth beat without an answer the bridge asks again
abbrev pub near_beats : Bool → Near → Near
near_beats true n = record {
  link = submitted n.serial n.link;
  waits = n.waits;
  serial = n.serial;
  beats = 0;
  sent = push n.sent (Request n.link.next n.serial);
}
near_beats false n = record {
  link = with_sending n.link (aged n.link.sending);
  waits = n.waits;
  serial = n.serial;
  beats = n.beats + 1;
  sent = n.sent ++ again Request n.link.sending;
}

abbrev pub near_rests : Near → Near
near_rests n = record {
  link = with_sending n.link (aged n.link.sending);
  waits = n.waits;
  serial = n.serial;
  beats = n.beats;
  sent = n.sent ++ again Request n.link.sending;
}

abbrev pub beats_while : Bool → Near → Near
beats_while true n = near_beats (n.beats + 1 == 16) n
beats_while false n = near_rests n

abbrev pub near_beat : Near → Near
near_beat n = beats_while n.waits n

abbrev pub far_beat : Far → Far
far_beat f =
    let c = counted (f.count == 15) f.count in
    record {
      link = with_sending f.link (aged f.link.sending);
      last = f.last;
      count = c;
      sent = f.sent ++ (hello_words (c == 1) (f.last == 0) ++ again Answer f.link.sending);
    }

abbrev pub near_empty : Near → Near
near_empty n = record { link = n.link; waits = n.waits; serial = n.serial; beats = n.beats; sent = [] }

abbrev pub far_empty : Far → Far
far_empty f = record { link = f.link; last = f.last; count = f.count; sent = [] }

-- the upward words in order, then the downward words with what the bridge sent meanwhile
abbrev pub near_up : Pair → Near
near_up p = near_all p.near p.far.sent

abbrev pub far_down : Pair → Far
far_down p = far_all (far_empty p.far) (near_up p).sent

-- a round in which each word passes
abbrev pub pass_round : Pair → Pair
pass_round p = record { near = near_beat (near_empty (near_up p)); far = far_beat (far_down p) }
