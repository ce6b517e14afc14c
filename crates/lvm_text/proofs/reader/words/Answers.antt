use Rattle.std.proofs.Common.{◌≡◌, ◌∷◌, rules, arith}
use Rattle.lvm_text.proofs.Texts.{begins, goes_on}
use Rattle.lvm_text.proofs.reader.words.Goals as goal

pub loop-byte-init : goal.loop-byte-init
loop-byte-init c = (rw c.new-words.ensures.items (begins c.past_blanks_of-rest.result.now c.args.text.now c.past_blanks_of-rest.ensures.rest c.past_blanks_of-rest.ensures.within), omega arith)

pub loop-byte-preserved : goal.loop-byte-preserved
loop-byte-preserved c =
    let is : c.loop-byte.rest.now ≡ c.in-Some.byte.now ∷ c.in-Some.after.now = search rules in (
      goes_on c.loop-byte.words.items c.push.new.self.items c.loop-byte.place c.in_ok-word.next c.in-Some.byte.now c.loop-byte.rest.now c.in-Some.after.now c.in_ok-word.behind.now c.past_blanks_of-rest-in-Some.result.now c.args.text.now c.in_ok-word.word
          c.loop-byte.invariant.0 is c.if-byte-eq0.false c.in_ok-word.ensures.word c.in_ok-push.ensures.items c.past_blanks_of-rest-in-Some.ensures.rest c.past_blanks_of-rest-in-Some.ensures.within c.in_ok-word.ensures.goes_on.0,
      omega (arith, c.in_ok-word.ensures.goes_on.1, c.loop-byte.invariant.1, c.past_blanks_of-rest-in-Some.ensures.within),
    )
