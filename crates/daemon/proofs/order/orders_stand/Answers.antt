use Rattle.daemon.proofs.OrdersLaws.{robin_order, script_order}
use Rattle.daemon.proofs.order.orders_stand.Goals as goal

pub returns : goal.returns
returns c = record { robin = robin_order; script = script_order }
