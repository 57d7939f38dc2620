pub mod Dues
pub mod RoundRobins
pub mod ScriptChecks
pub mod Scripts
pub mod Orders
pub mod Waits
pub mod ScriptSound
pub mod RobinSound
