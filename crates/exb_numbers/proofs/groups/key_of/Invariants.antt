use Rattle.std.proofs.Common.{◌≡◌, fold, take, drop}
use Rattle.exb_numbers.specs.GroupOrder.{mixed}
use Rattle.exb_numbers.proofs.groups.key_of.Given as goal

-- the words of each piece so far
abbrev pub invariant-loop-place : goal.invariant-loop-place
invariant-loop-place l = record {
  first : l.first ≡ fold mixed 0 (take l.place l.set.words);
  second : l.second ≡ fold mixed 0 (take l.place (drop 16 l.set.words));
  third : l.third ≡ fold mixed 0 (take l.place (drop 32 l.set.words));
  fourth : l.fourth ≡ fold mixed 0 (take l.place (drop 48 l.set.words));
}
