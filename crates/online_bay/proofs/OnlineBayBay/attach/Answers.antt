use Rattle.online_bay.specs.OnlineBay.{offline_in}
use Rattle.online_bay.proofs.Attached.{attached_online, refused_still}
use Rattle.online_bay.proofs.OnlineBayBay.attach.Goals as goal

pub returns-in-Ok-clause-attaches : goal.returns-in-Ok-clause-attaches
returns-in-Ok-clause-attaches g c =
    attached_online (offline_in c.args.self.now) (offline_in c.bring_online.new.self) c.args.name.now c.in-Ok.disk c.bring_online.ensures.offline
    (rw c.bring_online.ensures.bay c.in-Ok.ensures.attaches)

pub returns-in-Err-clause-attaches : goal.returns-in-Err-clause-attaches
returns-in-Err-clause-attaches g c =
    refused_still (offline_in c.args.self.now) c.args.name.now c.in-Err.fault c.in-Err.ensures.attaches
