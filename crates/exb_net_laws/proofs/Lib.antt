mod BridgeRuns
mod NetRunLaws
mod CountersGoOn
mod Deliveries
mod EventCounts
mod OpenedBridges
