pub mod Ports
pub mod PortByPort
