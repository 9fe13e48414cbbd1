use Rattle.std.proofs.Common.{arith}
use Rattle.switch.specs.Seen.{grant_of}
use Rattle.machine.specs.Listed.{listed}
use Rattle.machine.proofs.Progress.{begun, one_more, all-sent}
use Rattle.machine.proofs.sending.send_all.Goals as goal

pub loop-sent-init : goal.loop-sent-init
loop-sent-init g c = begun (grant_of c.args.grants.now) _ (listed c.none-departures.result) c.none-departures.ensures

pub send_one-requires : goal.send_one-requires
send_one-requires g c = c.loop-sent.invariant.can c.requires.0

pub push-requires : goal.push-requires
push-requires g c = omega (arith, c.loop-sent.invariant.left, c.in-Some.ensures.fewer, c.requires.1)

pub loop-sent-smaller : goal.loop-sent-smaller
loop-sent-smaller g c = omega (arith, c.in-Some.ensures.fewer)

pub loop-sent-preserved : goal.loop-sent-preserved
loop-sent-preserved g c =
    one_more (grant_of c.args.grants.now) _ (listed c.loop-sent.departures) (listed c.push.new.self) c.in-Some.sent _ _ c.loop-sent.invariant c.in-Some.ensures c.push.ensures

pub returns : goal.returns
returns g c =
    record {
      sent = all-sent (grant_of c.args.grants.now) _ (listed c.loop-sent.departures) _ _ c.loop-sent.invariant c.in_default.ensures.0 c.in_default.ensures.1;
      sized = (c.send_one.array_long, c.send_one.array_long2);
    }
