mod Lists
pub mod PortsBelow
mod TargetChoice
mod FrameSets
pub mod TaggedFrames
mod TreeEgress
mod FlatOutput
mod EachSend
mod PortSends
mod RelayParts
mod HearersBelow
mod BridgePortBits
mod PassedHearers
mod IngressSteps
