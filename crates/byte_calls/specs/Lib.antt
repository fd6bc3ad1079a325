pub mod ByteCalls
