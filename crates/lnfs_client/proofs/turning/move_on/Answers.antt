use Rattle.std.proofs.Common.{Ok, refl}
use Rattle.std.specs.Option.{option_copied}
use Rattle.lnfs_client.specs.declared.stage.Stage.TheVariants.{Asserting, Exchanging, Creating, Reclaiming, Asking, Changing, Closing, EndingSession, EndingClient, EndingContext}
use Rattle.lnfs_client.specs.declared.answer.Answer.TheVariants.{Made}
use Rattle.lnfs_client.specs.declared.answer.Progress.TheVariants.{Done}
use Rattle.lnfs_client.specs.Machine.{moved}
use Rattle.lnfs_client.proofs.Turned.{idle_is, led_from, turned_from}
use Rattle.lnfs_client.proofs.turning.move_on.Goals as goal

pub returns-in-Asserting : goal.returns-in-Asserting
unfolding moved
returns-in-Asserting c = led_from c.go_to.result c.args.known.now c.go_to.new.known c.args.running (option_copied c.args.last) Asserting c.in-Asserting.is c.go_to.ensures

pub returns-in-Exchanging : goal.returns-in-Exchanging
unfolding moved
returns-in-Exchanging c = led_from c.end_exchange.result c.args.known.now c.end_exchange.new.known c.args.running (option_copied c.args.last) Exchanging c.in-Exchanging.is c.end_exchange.ensures

pub returns-in-Creating : goal.returns-in-Creating
unfolding moved
returns-in-Creating c = led_from c.end_creation.result c.args.known.now c.end_creation.new.known c.args.running (option_copied c.args.last) Creating c.in-Creating.is c.end_creation.ensures

pub returns-in-Reclaiming : goal.returns-in-Reclaiming
unfolding moved
returns-in-Reclaiming c = led_from c.end_mount.result c.args.known.now c.end_mount.new.known c.args.running (option_copied c.args.last) Reclaiming c.in-Reclaiming.is c.end_mount.ensures

pub returns-in-Changing : goal.returns-in-Changing
unfolding moved
returns-in-Changing c = led_from c.end_change.result c.args.known.now c.end_change.new.known c.args.running (option_copied c.args.last) Changing c.in-Changing.is c.end_change.ensures

pub returns-in-EndingSession : goal.returns-in-EndingSession
unfolding moved
returns-in-EndingSession c = led_from c.go_to-in-EndingSession.result c.args.known.now c.go_to-in-EndingSession.new.known c.args.running (option_copied c.args.last) EndingSession c.in-EndingSession.is c.go_to-in-EndingSession.ensures

pub returns-in-EndingClient : goal.returns-in-EndingClient
unfolding moved
returns-in-EndingClient c = led_from c.end_client.result c.args.known.now c.end_client.new.known c.args.running (option_copied c.args.last) EndingClient c.in-EndingClient.is c.end_client.ensures

pub returns-in-EndingContext : goal.returns-in-EndingContext
unfolding moved
returns-in-EndingContext c = led_from c.leave.result c.args.known.now c.leave.new.known c.args.running (option_copied c.args.last) EndingContext c.in-EndingContext.is c.leave.ensures

pub returns-in-Asking : goal.returns-in-Asking
unfolding moved
returns-in-Asking c = turned_from c.leave_target.result c.args.known.now c.leave_target.new.known c.args.running (option_copied c.args.last) Asking c.in-Asking.is c.leave_target.ensures

pub returns-in-Closing : goal.returns-in-Closing
unfolding moved
returns-in-Closing c = turned_from (Ok (Done Made)) c.args.known.now c.args.known.now c.args.running (option_copied c.args.last) Closing c.in-Closing.is (idle_is c.args.known.now c.requires, refl)
